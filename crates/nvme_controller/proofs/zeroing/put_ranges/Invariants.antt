use Rattle.std.proofs.Common.{◌≡◌, ℕ, ◌<◌}
use Rattle.std.specs.Prelude.{slice_index_or}
use Rattle.nvme_controller.specs.Zeroing.{no_extent, no_range, range_of}
use Rattle.nvme_controller.proofs.zeroing.put_ranges.Given as goal

-- the ranges before the index are those of the extents
abbrev pub invariant-loop-i : goal.invariant-loop-i
invariant-loop-i l =
    (k : ℕ) → k < l.i → slice_index_or l.ranges k no_range ≡ range_of (slice_index_or l.extents k no_extent)
