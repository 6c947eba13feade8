-- Sets and maps of numbers, with a place for each number of a range.
use Rattle.std.specs.Prelude.{◌≡◌, ℕ, zero, suc, ◌+◌, ◌<◌, ◌≤◌, Bool, true, false, Option, Some, None}
use Rattle.std.specs.Prelude.{if◌then◌else◌}
use Rattle.std.specs.Ordering.{nat_cmp}
use Rattle.std.specs.FinMap as map

-- a map from numbers to values
abbrev pub NumberMap : Type 0 → Type 0
NumberMap A = map.FinMap nat_cmp A

-- a set of numbers
abbrev pub NumberSet : Type 0
NumberSet = NumberMap (Unit {0})

-- the set with a number more
abbrev pub insert : NumberSet → ℕ → NumberSet
insert s n = map.insert s n tt

-- the number is one of the `count` from `first` on
abbrev pub IsOf : ℕ → ℕ → ℕ → Type 0
IsOf first count n = (first ≤ n) × (n < first + count)

-- n has a value in the map, and no lower number has
pub record IsLowest {A : Type 0} (m : NumberMap A) (n : ℕ) : Type 0 where
  pub member : map.contains_key m n ≡ true
  pub least : (q : ℕ) → q < n → map.contains_key m q ≡ false

-- n has a value in the map and is greater than `after`, and no lower such number has one
pub record IsNext {A : Type 0} (m : NumberMap A) (after n : ℕ) : Type 0 where
  pub later : after < n
  pub member : map.contains_key m n ≡ true
  pub least : (q : ℕ) → after < q → q < n → map.contains_key m q ≡ false

-- the map with a value for a number, if there is one
abbrev pub with_value : {A : Type 0} → NumberMap A → ℕ → Option A → NumberMap A
with_value m n None = m
with_value m n (Some x) = map.insert m n x

-- the map in which number first + k has the value `at k`, for each k below `count`
unfoldable pub by_place : {A : Type 0} → (ℕ → Option A) → ℕ → ℕ → NumberMap A
by_place at first zero = map.empty
by_place at first (suc count) = with_value (by_place at first count) (first + count) (at count)

-- the value of a number in a set, which is only its membership
abbrev pub as_member : Bool → Option (Unit {0})
as_member b = if b then Some tt else None

-- the set of all `count` numbers from `first` on
abbrev pub all_of : ℕ → ℕ → NumberSet
all_of first count = by_place (λ _. as_member true) first count
