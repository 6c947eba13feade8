-- Laws of slots that are written.
use Rattle.std.proofs.Common.{◌≡◌, ◌∙◌, ℕ, ◌+◌, ◌-◌, ◌<◌, ◌==◌, Bool, true, false, not, cond, List, [], ◌∷◌, rules}
use Rattle.std.proofs.Common.{length, get_or, set, Option, Some, None, is_some, IfSome, MatchOption, refl, sym, ap}
use Rattle.std.proofs.Common.{arith, get_or-set_same, get_or-set_other}
use Rattle.std.proofs.lemmas.Grind.{common_steps}
use Rattle.std.proofs.lemmas.Bool.{cases_eq, eq-eqb, ne_eqb, not-false, not-true}
use Rattle.std.specs.Cmp.{nat_cmp_total}
use Rattle.std.specs.Ordering.{nat_cmp}
use Rattle.std.specs.FinMap as map
use Rattle.std.specs.FinMap.{len-empty, len-insert, len-remove}
use Rattle.nv_bits.specs.BitSet.{RangeSet}
use Rattle.nv_bits.proofs.NumberLaws.{above_next, above_none, by_place-insert, by_place-remove, by_place_is}
use Rattle.nv_bits.proofs.NumberLaws.{contains-insert, contains-remove, get_at}
use Rattle.nv_bits.specs.Numbers.{IsLowest, IsNext, IsOf, NumberMap, all_of, as_member, insert}
use Rattle.nv_bits.specs.Above.{above}
use Rattle.nv_bits.specs.VecMap.{IsVecMap, IsLowestFree, RangeMap, values_of}

-- "not y, but false if b" is the negation of "y, or true if b"
not_after : (b y : Bool) → cond b false (not y) ≡ not (cond b true y)
not_after b y = search rules

-- "not y, but true if b" is the negation of "y, but false if b"
not_before : (b y : Bool) → cond b true (not y) ≡ not (cond b false y)
not_before b y = search rules

module _ {A : Type 0} where
  -- after slot k is written, it has the new value, and every other slot has its own
  set_slot : (slots : List (Option A)) (k : ℕ) (o : Option A) → k < length slots
      → (j : ℕ) → get_or (set slots k o) j None ≡ cond (j == k) o (get_or slots j None)
  set_slot slots k o h j = grind (arith, common_steps, cases_eq, eq-eqb, get_or-set_same, ne_eqb, get_or-set_other)

  module _ (first count : ℕ) (slots : List (Option A)) (k : ℕ) (here : k < count) (room : length slots ≡ count) where
    -- writing x to slot k inserts x at the number of slot k into the map
    pub values-insert : (x : A)
        → values_of first count (set slots k (Some x)) ≡ map.insert (values_of first count slots) (first + k) x
    values-insert x = by_place-insert _ _ first count k here x (set_slot slots k (Some x) (omega arith))

    -- emptying slot k removes the number of slot k from the map
    pub values-remove : values_of first count (set slots k None) ≡ map.remove (values_of first count slots) (first + k)
    values-remove = by_place-remove _ _ first count k here (set_slot slots k None (omega arith))

  -- slots with no value represent an empty map
  pub values-empty : (first count : ℕ) (slots : List (Option A)) → ((k : ℕ) → get_or slots k None ≡ None)
      → values_of first count slots ≡ map.empty
  values-empty first count slots none =
      by_place_is _ first count map.empty
      (λ k _. map.get-empty nat_cmp (first + k) ∙ sym (none k)) (λ q _. map.get-empty nat_cmp q)

  -- with no number occupied and all numbers free, the two sets represent an empty map
  pub slots-empty : (first count : ℕ) → IsVecMap (record { first = first; count = count; members = map.empty })
      (record { first = first; count = count; members = all_of first count }) (map.empty {X = A} {R = nat_cmp})
  slots-empty first count = record {
    same_first = refl;
    same_count = refl;
    len_is = len-empty nat_cmp (Unit {0}) ∙ sym (len-empty nat_cmp A);
    occupied_is = λ q. ap is_some (map.get-empty nat_cmp q) ∙ sym (ap is_some (map.get-empty nat_cmp q));
    free_is = λ q of.
        let e : q ≡ first + (q - first) = omega arith in
        ap (λ n. map.contains_key (all_of first count) n) e
        ∙ ap is_some (get_at (λ _. as_member true) first count (q - first) (omega arith))
        ∙ sym (ap (λ o. not (is_some o)) (map.get-empty nat_cmp q));
  }

  module _ (occupied free : RangeSet) (values : NumberMap A) (are : IsVecMap occupied free values) (n : ℕ) where
    -- if n is given a value, n joins the occupied numbers and leaves the free ones
    pub slots-insert : (x : A) → IsVecMap (record occupied { members = insert occupied.members n })
        (record free { members = map.remove free.members n }) (map.insert values n x)
    slots-insert x = record {
      same_first = are.same_first;
      same_count = are.same_count;
      len_is =
          len-insert nat_cmp_total occupied.members n tt
          ∙ ap (λ b. cond b (map.len occupied.members) (map.len occupied.members + 1)) (are.occupied_is n)
          ∙ ap (λ l. cond (map.contains_key values n) l (l + 1)) are.len_is
          ∙ sym (len-insert nat_cmp_total values n x);
      occupied_is = λ q.
          contains-insert occupied.members n tt q
          ∙ ap (cond (q == n) true) (are.occupied_is q) ∙ sym (contains-insert values n x q);
      free_is = λ q of.
          contains-remove free.members n q ∙ ap (cond (q == n) false) (are.free_is q of)
          ∙ not_after (q == n) (map.contains_key values q) ∙ ap not (sym (contains-insert values n x q));
    }

    -- if the value of n is removed, n leaves the occupied numbers and joins the free ones
    pub slots-remove : IsVecMap (record occupied { members = map.remove occupied.members n })
        (record free { members = insert free.members n }) (map.remove values n)
    slots-remove = record {
      same_first = are.same_first;
      same_count = are.same_count;
      len_is =
          len-remove nat_cmp_total occupied.members n
          ∙ ap (λ b. cond b (map.len occupied.members - 1) (map.len occupied.members)) (are.occupied_is n)
          ∙ ap (λ l. cond (map.contains_key values n) (l - 1) l) are.len_is
          ∙ sym (len-remove nat_cmp_total values n);
      occupied_is = λ q.
          contains-remove occupied.members n q
          ∙ ap (cond (q == n) false) (are.occupied_is q) ∙ sym (contains-remove values n q);
      free_is = λ q of.
          contains-insert free.members n tt q ∙ ap (cond (q == n) true) (are.free_is q of)
          ∙ not_before (q == n) (map.contains_key values q) ∙ ap not (sym (contains-remove values n q));
    }

    -- the map of the range that has these values
    abbrev all : RangeMap A
    all = record { first = occupied.first; count = occupied.count; values = values }

    -- the lowest number of the free set, if it has one, is the lowest number without a value
    pub lowest_free_is : (r : Option ℕ) → MatchOption r (free.members ≡ map.empty) (IsLowest free.members)
        → IfSome r (IsOf free.first free.count)
        → MatchOption r ((q : ℕ) → IsOf occupied.first occupied.count q → map.contains_key values q ≡ true)
        (IsLowestFree all)
    lowest_free_is None none range = λ q of.
        not-false (map.contains_key values q)
        (sym (are.free_is q of) ∙ ap (λ s. map.contains_key s q) none ∙ ap is_some (map.get-empty nat_cmp q))
    lowest_free_is (Some k) lowest range =
        let of : IsOf occupied.first occupied.count k = rw (are.same_first, are.same_count) at range in record {
          in_range = of;
          no_value = not-true (map.contains_key values k) (sym (are.free_is k of) ∙ lowest.member);
          least = λ q is h. not-false (map.contains_key values q) (sym (are.free_is q is) ∙ lowest.least q h);
        }

    -- the next occupied number after n, if there is one, is the next number with a value
    pub next_listed : (r : Option ℕ)
        → MatchOption r ((q : ℕ) → n < q → map.contains_key occupied.members q ≡ false) (IsNext occupied.members n)
        → MatchOption r (above n (map.keys values) ≡ [])
        (λ k. above n (map.keys values) ≡ k ∷ above k (map.keys values))
    next_listed r h = search (rules, above_none, above_next)
