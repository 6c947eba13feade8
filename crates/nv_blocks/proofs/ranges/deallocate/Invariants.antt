use Rattle.std.proofs.Common.{◌≡◌}
use Rattle.nv_blocks.specs.Ranges.{deallocated}
use Rattle.nv_blocks.proofs.ranges.deallocate.Given as goal

-- the ranges so far are zeroed
abbrev pub invariant-loop-index : goal.invariant-loop-index
invariant-loop-index l = l.stored ≡ deallocated l.block_size l.list l.initial.stored l.index
