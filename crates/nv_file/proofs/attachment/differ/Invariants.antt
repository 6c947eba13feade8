use Rattle.std.proofs.Common.{◌≡◌, drop}
use Rattle.nv_file.specs.File.{differ}
use Rattle.nv_file.proofs.attachment.differ.Given as goal

abbrev pub invariant-loop-i : goal.invariant-loop-i
invariant-loop-i l = differ (drop l.i l.numbers) ≡ differ l.numbers
