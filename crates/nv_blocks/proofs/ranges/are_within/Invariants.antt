use Rattle.std.proofs.Common.{◌≡◌, true}
use Rattle.nv_blocks.specs.Ranges.{are_within}
use Rattle.nv_blocks.proofs.ranges.are_within.Given as goal

-- all ranges so far lie within the blocks
abbrev pub invariant-loop-index : goal.invariant-loop-index
invariant-loop-index l = are_within l.blocks l.list l.index ≡ true
