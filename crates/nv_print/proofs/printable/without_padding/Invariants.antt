use Rattle.std.proofs.Common.{◌≡◌, ◌-◌, ◌≤◌, ◌++◌, length, replicate}
use Rattle.nv_print.proofs.printable.without_padding.Given as goal

abbrev pub invariant-loop-before : goal.invariant-loop-before
invariant-loop-before l =
    (l.bytes ≡ l.rest ++ replicate (length l.bytes - length l.rest) 32) × (length l.rest ≤ length l.bytes)

abbrev pub decreases-loop-before : goal.decreases-loop-before
decreases-loop-before l = length l.rest
