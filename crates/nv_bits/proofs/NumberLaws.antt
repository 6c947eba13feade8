-- Laws of maps and sets of numbers.
use Rattle.std.proofs.lemmas.Bool.Decides.{nat_tests}
use Rattle.std.proofs.Common.{◌≡◌, ◌≢◌, ◌∙◌, ℕ, zero, suc, ◌+◌, ◌-◌, ◌<◌, ◌≤◌, ◌==◌, ◌&&◌, rules}
use Rattle.std.proofs.Common.{Bool, true, false, cond, List, [], ◌∷◌, Option, Some, None, is_some}
use Rattle.std.proofs.Common.{refl, sym, ap, subst, arith, inl, inr, map as map_list}
use Rattle.std.proofs.lemmas.Grind.{common_steps}
use Rattle.std.proofs.Math.Dec.{T}
use Rattle.std.proofs.lemmas.Bool.{cases_eq, cases_lt, cases_order, cond_both, eq-eqb, le-ltb}
use Rattle.std.proofs.lemmas.Bool.{lt-ltb, ne_eqb, or_parts, true≢false}
use Rattle.std.specs.List.{list_any}
use Rattle.std.specs.Ordering.{nat_cmp, eq_by_cmp, is_lt}
use Rattle.std.specs.Cmp.{nat_cmp_total, unsigned_tied}
use Rattle.std.specs.FinMap as map
use Rattle.std.specs.FinMap.{get, get-empty, get-insert, get-remove, is_sorted, len-empty}
use Rattle.std.specs.FinMap.{len-insert, nat_cmp-IsAntisymmetric, same_map}
use Rattle.std.specs.FinMap.Entries.{below_all}
use Rattle.nv_bits.specs.Numbers.{IsNext, IsOf, NumberMap, all_of, as_member, by_place, with_value}
use Rattle.nv_bits.specs.Above.{above}

module _ {A : Type 0} where
  -- after x is inserted under k, k has x, and every other number has the value that it had
  pub get_of_insert : (m : NumberMap A) (k : ℕ) (x : A) (q : ℕ) → get (map.insert m k x) q
      ≡ cond (q == k) (Some x) (get m q)
  get_of_insert m k x q = cc (get-insert nat_cmp_total m k x q, unsigned_tied q k)

  -- after k is removed, k has no value, and every other number has the value that it had
  pub get_of_remove : (m : NumberMap A) (k q : ℕ) → get (map.remove m k) q
      ≡ cond (q == k) None (get m q)
  get_of_remove m k q =
      get-remove nat_cmp_total m k q ∙ ap (λ b. cond b None (get m q)) (unsigned_tied q k)

  -- two maps in which the same is found are equal
  pub same_numbers : (m n : NumberMap A) → ((q : ℕ) → get m q ≡ get n q) → m ≡ n
  same_numbers m n = same_map nat_cmp_total nat_cmp-IsAntisymmetric m n

  -- if k has no value, with_value gives k the optional value o and changes no other number
  get_of_with_value : (m : NumberMap A) (k q : ℕ) (o : Option A) → get m k ≡ None
      → get (with_value m k o) q ≡ cond (q == k) o (get m q)
  get_of_with_value m k q o h = search (rules, get_of_insert)

  -- a map by places has no value for a number outside the range
  pub get_outside : (at : ℕ → Option A) (first count q : ℕ) → (IsOf first count q → ⊥)
      → get (by_place at first count) q ≡ None
  unfolding by_place
  get_outside at first zero q out = get-empty nat_cmp q
  get_outside at first (suc count) q out =
      let none = get_outside at first count (first + count) (λ is. absurd (omega arith)) in
      let other : q ≢ first + count = λ e. out (omega arith, omega arith) in
      get_of_with_value (by_place at first count) (first + count) q (at count) none
      ∙ rw (ne_eqb q (first + count) other) (get_outside at first count q
      (λ is. out (is.0, omega arith)))

  -- number first + k of a map by places has the value of place k
  pub get_at : (at : ℕ → Option A) (first count k : ℕ) → k < count
      → get (by_place at first count) (first + k) ≡ at k
  unfolding by_place
  get_at at first zero k h = absurd (omega arith)
  get_at at first (suc count) k h =
      let none = get_outside at first count (first + count) (λ is. absurd (omega arith)) in
      get_of_with_value (by_place at first count) (first + count) (first + k) (at count) none
      ∙ elim (cases_eq k count) [
        | inl e ↦ rw (e, eq-eqb (first + count) (first + count) refl) refl
        | inr ne ↦
            let other : first + k ≢ first + count = omega arith in
            rw (ne_eqb (first + k) (first + count) other) (get_at at first count k (omega arith))
      ]

  -- a map that has the values of the places, and no others, is the map by these places
  pub by_place_is : (at : ℕ → Option A) (first count : ℕ) (m : NumberMap A)
      → ((k : ℕ) → k < count → get m (first + k) ≡ at k)
      → ((q : ℕ) → (IsOf first count q → ⊥) → get m q ≡ None) → by_place at first count ≡ m
  by_place_is at first count m inside outside =
      same_numbers _ m (λ q. elim (cases_lt q first) [
        | inl below ↦
            let out : IsOf first count q → ⊥ = λ is. omega arith in
            get_outside at first count q out ∙ sym (outside q out)
        | inr from ↦
            elim (cases_lt q (first + count)) [
              | inr past ↦
                  let out : IsOf first count q → ⊥ = λ is. omega arith in
                  get_outside at first count q out ∙ sym (outside q out)
              | inl within ↦
                  let e : q ≡ first + (q - first) = omega arith in
                  rw e (get_at at first count (q - first) (omega arith)
                  ∙ sym (inside (q - first) (omega arith)))
            ]
      ])

  -- one place of a map by places is given a value, or none
  module _ (old new : ℕ → Option A) (first count k : ℕ) (here : k < count) where
    abbrev Changes : Option A → Type 0
    Changes o = (j : ℕ) → new j ≡ cond (j == k) o (old j)

    -- a choice by whether first + j is first + k is the choice by whether j is k
    here_and_there : (o : Option A) (j : ℕ) → cond (first + j == first + k) o (old j)
        ≡ cond (j == k) o (old j)
    here_and_there o j = grind (arith, common_steps, cases_eq, eq-eqb, ne_eqb)

    -- a map that differs from the old one only in that first + k has o is the map by the new places
    changed : (o : Option A) (m : NumberMap A)
        → ((q : ℕ) → get m q ≡ cond (q == first + k) o (get (by_place old first count) q))
        → Changes o → by_place new first count ≡ m
    changed o m is change =
        by_place_is new first count m
        (λ j h. is (first + j) ∙ ap (cond (first + j == first + k) o) (get_at old first count j h)
        ∙ here_and_there o j ∙ sym (change j))
        (λ q out.
        let other : q ≢ first + k = λ e. out (omega arith, omega arith) in
        is q ∙ rw (ne_eqb q (first + k) other) (get_outside old first count q out))

    -- if place k now has the value x, the map by places is the old one with first + k inserted
    pub by_place-insert : (x : A) → Changes (Some x) → by_place new first count
        ≡ map.insert (by_place old first count) (first + k) x
    by_place-insert x = changed (Some x) _ (get_of_insert (by_place old first count) (first + k) x)

    -- if place k now has no value, the map by places is the old one with first + k removed
    pub by_place-remove : Changes None → by_place new first count
        ≡ map.remove (by_place old first count) (first + k)
    by_place-remove = changed None _ (get_of_remove (by_place old first count) (first + k))

  -- after a value is inserted under k, the map has k and the numbers that it had
  pub contains-insert : (m : NumberMap A) (k : ℕ) (x : A) (q : ℕ)
      → map.contains_key (map.insert m k x) q ≡ cond (q == k) true (map.contains_key m q)
  contains-insert m k x q = grind (arith, common_steps, get_of_insert)

  -- after k is removed, the map has the numbers that it had, without k
  pub contains-remove : (m : NumberMap A) (k q : ℕ) → map.contains_key (map.remove m k) q
      ≡ cond (q == k) false (map.contains_key m q)
  contains-remove m k q = grind (arith, common_steps, get_of_remove)

  -- a map by places has no more numbers than there are
  pub len_within : (at : ℕ → Option A) (first count : ℕ) → map.len (by_place at first count) ≤ count
  unfolding by_place
  len_within at first zero = omega (arith, len-empty nat_cmp A)
  len_within at first (suc count) = one_more (by_place at first count) (first + count) count
      (at count) (len_within at first count)
    where
      one_more : (m : NumberMap A) (k n : ℕ) (o : Option A) → map.len m ≤ n
          → map.len (with_value m k o) ≤ suc n
      one_more m k n None h = omega arith
      one_more m k n (Some x) h =
          let P : ℕ → Type 0 = λ l. l ≤ suc n in
          subst P (sym (len-insert nat_cmp_total m k x)) (cond_both (map.contains_key m k)
          (map.len m) (map.len m + 1) P (λ _. omega arith) (λ _. omega arith))

  -- a map that has a number isn't empty
  pub has_one : (m : NumberMap A) (k : ℕ) → map.contains_key m k ≡ true → 0 < map.len m
  has_one m k member =
      elim (cases_lt 0 (map.len m)) [
        | inl h ↦ h
        | inr h ↦
            let none : m ≡ map.empty = map.empty_of_len m (omega arith) in
            absurd (true≢false (sym member ∙ ap (λ e. map.contains_key e k) none
            ∙ ap is_some (get-empty nat_cmp k)))
      ]

  -- removing a number without a value changes nothing
  pub remove_absent : (m : NumberMap A) (k : ℕ) → map.contains_key m k ≡ false → map.remove m k ≡ m
  remove_absent m k absent = search (rules, same_numbers, get_of_remove)

-- a range of `count` numbers has `count` members
pub len-all_of : (first count : ℕ) → map.len (all_of first count) ≡ count
unfolding by_place
len-all_of first zero = len-empty nat_cmp (Unit {0})
len-all_of first (suc count) =
    let fewer = all_of first count in
    let out = get_outside (λ _. as_member true) first count (first + count)
    (λ is. absurd (omega arith)) in
    len-insert nat_cmp_total fewer (first + count) tt
    ∙ ap (λ o. cond (is_some o) (map.len fewer) (map.len fewer + 1)) out
    ∙ ap (λ n. n + 1) (len-all_of first count) ∙ omega arith

-- ---- the numbers of a map in ascending order

-- if the order of numbers says that x is less than y, then x < y
pub less : (x y : ℕ) → T (is_lt (nat_cmp x y)) → x < y
less x y h = search rules

-- if a conjunction holds, its first part holds
pub left : (a b : Bool) → T (a && b) → T a
left a b h = search rules

-- if a conjunction holds, its second part holds
pub right : (a b : Bool) → T (a && b) → T b
right a b h = search rules

module _ {A : Type 0} where
  -- whether one of the entries is for the number q
  abbrev has : List (ℕ × A) → ℕ → Bool
  has es q = list_any (eq_by_cmp nat_cmp q) (map_list (λ e. e.0) es)

  -- the numbers of the entries, in their order
  abbrev numbers : List (ℕ × A) → List ℕ
  numbers es = map_list (λ e. e.0) es

  -- the number of the first entry is among the numbers of the entries
  has_first : (e : ℕ × A) (es : List (ℕ × A)) → has (e ∷ es) e.0 ≡ true
  has_first e es = rw (unsigned_tied e.0 e.0, eq-eqb e.0 e.0 refl) refl

  -- the first entry makes no difference to whether a number other than its own is there
  has_other : (e : ℕ × A) (es : List (ℕ × A)) (q : ℕ) → q ≢ e.0 → has (e ∷ es) q ≡ has es q
  has_other e es q ne = rw (unsigned_tied q e.0, ne_eqb q e.0 ne) refl

  -- in entries that are all above x, each number is above x
  above_first : (x q : ℕ) (es : List (ℕ × A)) → T (below_all nat_cmp x es) → has es q ≡ true → x < q
  above_first x q [] below member = absurd (true≢false (sym member))
  above_first x q (e ∷ es) below member =
      elim (cases_eq q e.0) [
        | inl same ↦ rw same (less x e.0 (left _ _ below))
        | inr ne ↦ above_first x q es (right (is_lt (nat_cmp x e.0)) _ below)
            (sym (has_other e es q ne) ∙ member)
      ]

  -- if no entry is for a number above n, the numbers above n are none
  none_listed : (n : ℕ) (es : List (ℕ × A)) → ((q : ℕ) → n < q → has es q ≡ false)
      → above n (numbers es) ≡ []
  none_listed n [] none = refl
  none_listed n (e ∷ es) none =
      elim (cases_lt n e.0) [
        | inl h ↦ absurd (true≢false (sym (has_first e es) ∙ none e.0 h))
        | inr h
            ↦ rw (le-ltb n e.0 h)
            (none_listed n es (λ q l. (or_parts (eq_by_cmp nat_cmp q e.0) (has es q) (none q l)).1))
      ]

  -- if all entries are for numbers above x, and x is at least n, all their numbers are above n
  all_listed : (n x : ℕ) (es : List (ℕ × A)) → n ≤ x → T (below_all nat_cmp x es)
      → above n (numbers es) ≡ numbers es
  all_listed n x [] h below = refl
  all_listed n x (e ∷ es) h below =
      grind (arith, nat_tests, all_listed n x es h (right (is_lt (nat_cmp x e.0)) _ below))

  -- if k is the least number above n in sorted entries, the numbers above n are k and then those above k
  next_listed : (n k : ℕ) (es : List (ℕ × A)) → T (is_sorted nat_cmp es) → n < k → has es k ≡ true
      → ((q : ℕ) → n < q → q < k → has es q ≡ false) → above n (numbers es) ≡ k
      ∷ above k (numbers es)
  next_listed n k [] sorted after member least = absurd (true≢false (sym member))
  next_listed n k (e ∷ es) sorted after member least =
      let below : T (below_all nat_cmp e.0 es) = left _ _ sorted in
      elim (cases_lt n e.0) [
        | inr past ↦
            let other : k ≢ e.0 = omega arith in
            rw (le-ltb n e.0 past, le-ltb k e.0 (omega arith))
            (next_listed n k es (right (below_all nat_cmp e.0 es) _ sorted) after
            (sym (has_other e es k other) ∙ member)
            (λ q a b. let ne : q ≢ e.0 = omega arith in sym (has_other e es q ne) ∙ least q a b))
        | inl l ↦
            elim (cases_order e.0 k) [
              | inl same ↦
                  rw (lt-ltb n e.0 l, le-ltb k e.0 (omega arith))
                  (ap (λ t. e.0 ∷ t) (all_listed n e.0 es (omega arith) below)
                  ∙ rw same (ap (λ t. k ∷ t) (sym (all_listed k e.0 es (omega arith) below))))
              | inr differ ↦
                  elim differ [
                    | inl before ↦ absurd (true≢false (sym (has_first e es) ∙ least e.0 l before))
                    | inr behind ↦
                        let ne : k ≢ e.0 = omega arith in
                        let more : e.0 < k =
                        above_first e.0 k es below (sym (has_other e es k ne) ∙ member) in
                        absurd (omega arith)
                  ]
            ]
      ]

  -- if no number above n has a value, the map has no numbers above n
  pub above_none : (m : NumberMap A) (n : ℕ) → ((q : ℕ) → n < q → map.contains_key m q ≡ false)
      → above n (map.keys m) ≡ []
  above_none m n none = cc (none_listed n (map.entries m) (λ q h. sym (map.contains_key-keys m q) ∙ none q h))

  -- if k is the next number after n, the numbers of the map above n are k and then those above k
  pub above_next : (m : NumberMap A) (n k : ℕ) → IsNext m n k → above n (map.keys m) ≡ k
      ∷ above k (map.keys m)
  above_next m n k next =
      next_listed n k (map.entries m) (map.entries_sorted m) next.later
      (sym (map.contains_key-keys m k) ∙ next.member)
      (λ q a b. sym (map.contains_key-keys m q) ∙ next.least q a b)
