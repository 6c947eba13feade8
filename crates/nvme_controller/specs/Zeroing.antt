-- What an entry of an I/O queue zeroes, as a program in C gets it.
use Rattle.std.specs.Prelude.{◌≡◌, ℕ, ℤ, pos, negsuc, ◌<◌, List, length, slice_index_or, Result, Ok, Err}
use Rattle.nv_blocks.specs.declared.command.Extent.{Extent}
use Rattle.nv_blocks.specs.declared.refusal.Refusal.{Refusal}
use Rattle.nvme_controller.specs.declared.zeroing.ByteRange.{ByteRange}

-- an extent as a program in C gets it
abbrev pub range_of : Extent → ByteRange
range_of extent = record { offset = extent.start; length = extent.len }

-- the extent and the range that stand past the end of a list
abbrev pub no_extent : Extent
no_extent = record { start = 0; len = 0 }

abbrev pub no_range : ByteRange
no_range = range_of no_extent

-- the first ranges are these extents, in order
abbrev pub HoldsRanges : List Extent → List ByteRange → Type 0
HoldsRanges extents ranges =
    (k : ℕ) → k < length extents
    → slice_index_or ranges k no_range ≡ range_of (slice_index_or extents k no_extent)

-- the number of ranges with the ranges, or -1 for an entry that is refused
abbrev pub ListsRanges : Result (List Extent) Refusal → ℤ → List ByteRange → Type 0
ListsRanges (Ok extents) number ranges = (number ≡ pos (length extents)) × HoldsRanges extents ranges
ListsRanges (Err refusal) number ranges = number ≡ negsuc 0
