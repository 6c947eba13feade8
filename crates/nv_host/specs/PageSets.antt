-- Sets of page numbers from a range of consecutive ones.
pub use Rattle.nv_bits.specs.BitSet.{RangeSet as Pages}
pub use Rattle.nv_bits.specs.Numbers.{IsLowest, IsOf, all_of, insert}
