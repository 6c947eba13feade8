use Rattle.std.proofs.Common.{◌≡◌}
use Rattle.nv_line.proofs.clap_rule.MadeCommands.index_of.Given as goal

abbrev pub invariant-loop-index : goal.invariant-loop-index
invariant-loop-index l = l.self-inside ≡ l.initial.self-inside
