use Rattle.std.proofs.Common.{◌≡◌}
use Rattle.nv_controller.proofs.Words.{new_bank, replicate}
use Rattle.nv_controller.proofs.machine.new_banks.Given as goal

abbrev pub invariant-loop : goal.invariant-loop
invariant-loop l = l.banks.items ≡ replicate l.counter new_bank
