-- The lowest number without a slot's value is the least free NSID.
use Rattle.std.proofs.Common.{◌≡◌, ℕ, zero, suc, ◌+◌, ◌<◌, Bool, true, false, not, Option, Some, None, MatchOption}
use Rattle.std.proofs.Common.{refl, sym, ap, arith, inl, inr}
use Rattle.std.specs.FinMap as map_of
use Rattle.std.specs.List.{find}
use Rattle.nv_subsystem.proofs.Words.{cases_eq, IsLowestFree, IsOf, Namespace, range_with_len, RangeMap}

-- if no number of a range passes a test, none is found
none_found : (p : ℕ → Bool) (first count : ℕ) → ((q : ℕ) → IsOf first count q → p q ≡ false)
    → find p (range_with_len first count) ≡ None
none_found p first zero none = refl
none_found p first (suc count) none =
    let here : p first ≡ false = none first (omega arith, omega arith) in
    rw here (none_found p (first + 1) count
    (λ q of. none q (omega (arith, of.0), omega (arith, of.1))))

-- a number of a range that passes a test, and before which none does, is the one that is found
found : (p : ℕ → Bool) (first count n : ℕ) → IsOf first count n → p n ≡ true
    → ((q : ℕ) → IsOf first count q → q < n → p q ≡ false) → find p (range_with_len first count)
    ≡ Some n
found p first zero n of is least = absurd (omega (arith, of.0, of.1))
found p first (suc count) n of is least =
    elim (cases_eq first n) [
      | inl same ↦ rw (same, is) refl
      | inr ne ↦
          let here : p first ≡ false = least first (omega arith, omega arith)
          (omega (arith, of.0)) in
          rw here (found p (first + 1) count n (omega (arith, of.0), omega (arith, of.1)) is
          (λ q in_range h. least q (omega (arith, in_range.0), omega (arith, in_range.1)) h))
    ]

-- the lowest free number of slots from 1 on is the least free NSID
pub lowest_is_free : (m : RangeMap Namespace) (o : Option ℕ) → m.first ≡ 1
    → MatchOption o ((q : ℕ) → IsOf m.first m.count q → map_of.contains_key m.values q ≡ true)
    (IsLowestFree m)
    → o ≡ find (λ n. not (map_of.contains_key m.values n)) (range_with_len 1 m.count)
lowest_is_free m None one all = sym
    (none_found (λ n. not (map_of.contains_key m.values n)) 1 m.count
    (λ q of. ap not (all q (omega (arith, of.0), omega (arith, of.1)))))
lowest_is_free m (Some n) one is =
    sym (found (λ n. not (map_of.contains_key m.values n)) 1 m.count n
    (omega (arith, is.in_range.0), omega (arith, is.in_range.1)) (ap not is.no_value)
    (λ q of h. ap not (is.least q (omega (arith, of.0), omega (arith, of.1)) h)))
