-- The ranges of blocks that a Dataset Management command lists, in 16 bytes each.
use Rattle.std.specs.Prelude.{ℕ, zero, suc, ◌+◌, ◌*◌, ◌/◌, ◌&&◌, Bool, true, List, length, if◌then◌else◌}
use Rattle.std.specs.Prelude.{Result, Ok, Err}
use Rattle.nv_layout.specs.Parts.{number_at}
use Rattle.nv_blocks.specs.Blocks.{zeroed}
use Rattle.nv_blocks.specs.Command.{extent_of, is_within}
use Rattle.nv_blocks.specs.declared.ranges.BlockRange.{BlockRange}
use Rattle.nv_blocks.specs.declared.refusal.Refusal.{Refusal}
use Rattle.nv_blocks.specs.declared.refusal.Refusal.TheVariants.{LbaOutOfRange}

-- a range of a list: four bytes of attributes, the number of blocks, and the first one
abbrev pub range_at : List ℕ → ℕ → BlockRange
range_at list index =
    record { first = number_at (16 * index + 8) 8 list; count = number_at (16 * index + 4) 4 list }

-- a range lies within a number of blocks
abbrev pub is_range_within : ℕ → BlockRange → Bool
is_range_within blocks range = is_within blocks range.first range.count

-- the first ranges of a list lie within a number of blocks
abbrev pub are_within : ℕ → List ℕ → ℕ → Bool
are_within blocks list zero = true
are_within blocks list (suc n) = are_within blocks list n && is_range_within blocks (range_at list n)

-- the data after the first ranges of a list were zeroed, one after another
abbrev pub deallocated : ℕ → List ℕ → List ℕ → ℕ → List ℕ
deallocated block_size list stored zero = stored
deallocated block_size list stored (suc n) =
    let range = range_at list n in
    zeroed (deallocated block_size list stored n) (extent_of block_size range.first range.count)

-- the data after a command with so many ranges, which is refused if one of them isn't within the data
unfoldable pub managed : ℕ → ℕ → Bool → List ℕ → List ℕ → Result (List ℕ) Refusal
managed ranges block_size deallocates list stored =
    if are_within (length stored / block_size) list ranges
    then Ok (if deallocates then deallocated block_size list stored ranges else stored)
    else Err LbaOutOfRange
