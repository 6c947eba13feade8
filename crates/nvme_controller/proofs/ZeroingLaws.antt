-- What an entry zeroes, as a program in C gets it.
use Rattle.std.proofs.Common.{◌≡◌, ℤ, List, length, subst, sym, refl, false, pos, negsuc, Result, Ok, Err}
use Rattle.nv_blocks.specs.declared.command.Extent.{Extent}
use Rattle.nv_blocks.specs.declared.refusal.Refusal.{Refusal}
use Rattle.nvme_controller.specs.Zeroing.{HoldsRanges, ListsRanges}
use Rattle.nvme_controller.specs.declared.zeroing.ByteRange.{ByteRange}
use Rattle.nvme_controller.specs.inner.Zeroing.{is_accepted}

-- an entry that is refused has the number -1
pub refused : (found : Result (List Extent) Refusal) (ranges : List ByteRange) → is_accepted found ≡ false
    → ListsRanges found (negsuc 0) ranges
refused (Ok extents) ranges is = absurd (cc)
refused (Err refusal) ranges is = refl

-- an entry that zeroes these extents has their number and ranges
pub accepted : (found : Result (List Extent) Refusal) (extents : List Extent) (number : ℤ) (ranges : List ByteRange)
    → found ≡ Ok extents → number ≡ pos (length extents) → HoldsRanges extents ranges
    → ListsRanges found number ranges
accepted found extents number ranges is count holds =
    subst (λ (f : Result (List Extent) Refusal). ListsRanges f number ranges) (sym is) (count, holds)
