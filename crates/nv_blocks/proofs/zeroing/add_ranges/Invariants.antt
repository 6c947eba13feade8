use Rattle.std.proofs.Common.{◌≡◌}
use Rattle.nv_blocks.specs.Zeroing.{listed}
use Rattle.nv_blocks.proofs.zeroing.add_ranges.Given as goal

-- the extents are those of the ranges so far
abbrev pub invariant-loop-index : goal.invariant-loop-index
invariant-loop-index l = l.extents ≡ listed l.block_size l.list l.index
