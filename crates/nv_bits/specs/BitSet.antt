-- A set of numbers from a range, and the bits that represent it.
use Rattle.std.specs.Prelude.{◌≡◌, ℕ, ◌+◌, ◌/◌, ◌^◌, ◌<◌, ◌≤◌, false, List, length, slice_index}
use Rattle.std.specs.FinMap as map
use Rattle.nv_bits.specs.Numbers.{NumberSet, as_member, by_place}
use Rattle.nv_bits.specs.Words.{bit_of}

-- a set of numbers from the `count` numbers from `first` on
pub record RangeSet : Type 0 where
  pub first : ℕ
  pub count : ℕ
  pub members : NumberSet

-- the numbers whose bits are set
abbrev pub members_of : ℕ → ℕ → List ℕ → NumberSet
members_of first count words = by_place (λ k. as_member (bit_of words k)) first count

-- what holds for the fields
pub record AreBits (first count len lowest_word : ℕ) (words : List ℕ) : Type 0 where
  pub in_range : first + count ≤ 2 ^ 32
  pub room : length words ≡ count / 64 + 1
  pub none_past : (k : ℕ) → count ≤ k → bit_of words k ≡ false
  pub len_is : len ≡ map.len (members_of first count words)
  pub within : lowest_word ≤ length words
  pub none_below : (i : ℕ) → i < lowest_word → slice_index words i ≡ 0
