-- A map from the numbers of a range to values, and the slots that represent it.
use Rattle.std.specs.Prelude.{◌≡◌, ℕ, ◌<◌, false, true, not, List, Option, None}
use Rattle.std.specs.Prelude.{slice_index_or}
use Rattle.std.specs.FinMap as map
use Rattle.nv_bits.specs.BitSet.{RangeSet}
use Rattle.nv_bits.specs.Numbers.{IsOf, NumberMap, by_place}

-- the values of some of the `count` numbers from `first` on
pub record RangeMap (A : Type 0) : Type 0 where
  pub first : ℕ
  pub count : ℕ
  pub values : NumberMap A

-- slot k holds the value of number first + k
abbrev pub values_of : {A : Type 0} → ℕ → ℕ → List (Option A) → NumberMap A
values_of first count slots = by_place (λ k. slice_index_or slots k None) first count

-- n is the lowest number of the range that has no value
pub record IsLowestFree {A : Type 0} (m : RangeMap A) (n : ℕ) : Type 0 where
  pub in_range : IsOf m.first m.count n
  pub no_value : map.contains_key m.values n ≡ false
  pub least : (q : ℕ) → IsOf m.first m.count q → q < n → map.contains_key m.values q ≡ true

-- the occupied numbers are those with a value, and the free ones are the others of the range
pub record IsVecMap {A : Type 0} (occupied free : RangeSet) (values : NumberMap A) : Type 0 where
  pub same_first : free.first ≡ occupied.first
  pub same_count : free.count ≡ occupied.count
  pub len_is : map.len occupied.members ≡ map.len values
  pub occupied_is : (q : ℕ) → map.contains_key occupied.members q ≡ map.contains_key values q
  pub free_is : (q : ℕ) → IsOf occupied.first occupied.count q
      → map.contains_key free.members q ≡ not (map.contains_key values q)
