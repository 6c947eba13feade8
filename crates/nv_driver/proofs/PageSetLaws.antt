-- Pages that are taken from a set one after another, and returned.
use Rattle.nv_driver.proofs.Words.{[], ℕ, ◌&&◌, ◌++◌, ◌+◌, ◌<◌, ◌==◌, ◌||◌, ◌∙◌, ◌∷◌, ◌≡◌, ◌≢◌, ◌≤◌, All, All-push}
use Rattle.nv_driver.proofs.Words.{AllPairs, AreLowest, AreTaken, Bool, IsLowest, IsOf, IsSome, List, MatchOption, None}
use Rattle.nv_driver.proofs.Words.{NumberSet, Option, Pages, Some, ap, arith, both_ways, cases_lt, contains-insert}
use Rattle.nv_driver.proofs.Words.{contains-remove, false, fold, get_or, get_or-take, get_or_default}
use Rattle.nv_driver.proofs.Words.{has_one as some_in, inl, inr, insert, is_some, length, length-append, length-take}
use Rattle.nv_driver.proofs.Words.{list_any, list_any-append, list_any_none, nat_cmp, nat_eq, nat_tests, not, or_cases}
use Rattle.nv_driver.proofs.Words.{or_from, or_right, refl, same_numbers, subst, suc, sym, take, true, with_pages}
use Rattle.nv_driver.proofs.Words.{without, zero}
use Rattle.std.proofs.Common.{IfSome}
use Rattle.std.proofs.lemmas.List.Quantifiers.{all_pairs_push}
use Rattle.std.proofs.lemmas.List.Sums.{fold_push}
use Rattle.std.specs.Cmp.{nat_cmp_total}
use Rattle.std.specs.FinMap as map_of

-- ---- members of sets

abbrev pub is_in : List ℕ → ℕ → Bool
is_in ps q = list_any (λ y. nat_eq y q) ps

in_push : (ps : List ℕ) (p q : ℕ) → is_in (ps ++ p ∷ []) q ≡ (is_in ps q || (q == p))
in_push ps p q = grind (arith, nat_tests, list_any-append)

pub in_of : (ps : List ℕ) (i d q : ℕ) → i < length ps → get_or ps i d ≡ q → is_in ps q ≡ true
in_of [] i d q h e = absurd (omega arith)
in_of (x ∷ ps) zero d q h e = grind (arith, nat_tests, e)
in_of (x ∷ ps) (suc i) d q h e = or_right (nat_eq x q) (is_in ps q) (in_of ps i d q (omega arith) e)

pub not_in : (ps : List ℕ) (q : ℕ) → ((i d : ℕ) → i < length ps → get_or ps i d ≢ q) → is_in ps q ≡ false
not_in ps q each = list_any_none (λ y. nat_eq y q) ps (λ i d h. grind (arith, nat_tests, each i d h))

-- what a set has without pages, and with pages
pub without_in : (s : NumberSet) (ps : List ℕ) (q : ℕ)
    → map_of.contains_key (fold map_of.remove s ps) q ≡ (map_of.contains_key s q && not (is_in ps q))
without_in s [] q = grind arith
without_in s (p ∷ ps) q =
    grind (arith, nat_tests, without_in (map_of.remove s p) ps q, contains-remove s p q)

pub with_in : (s : NumberSet) (ps : List ℕ) (q : ℕ)
    → map_of.contains_key (fold insert s ps) q ≡ (map_of.contains_key s q || is_in ps q)
with_in s [] q = grind arith
with_in s (p ∷ ps) q = grind (arith, nat_tests, with_in (insert s p) ps q, contains-insert s p tt q)

-- what is left of a set was in it, and isn't among the pages
pub left_in : (s : Pages) (ps : List ℕ) (q : ℕ) → map_of.contains_key (without s ps).members q ≡ true
    → (map_of.contains_key s.members q ≡ true) × (is_in ps q ≡ false)
left_in s ps q e = let is = sym (without_in s.members ps q) ∙ e in (grind (arith, is), grind (arith, is))

-- one of distinct pages isn't among those before it
pub not_before : (pages : List ℕ) (at : ℕ) → at < length pages → AllPairs (λ p q. p ≢ q) pages
    → is_in (take at pages) (get_or pages at 0) ≡ false
not_before pages at below distinct = not_in (take at pages) (get_or pages at 0)
    (λ i d h same. let low : i < at = omega (arith, length-take at pages) in
    distinct i at d low below (sym (get_or-take at pages i d low) ∙ same ∙ get_or_default pages at 0 d below))

-- two sets with the same members are equal
pub same_pages : (s : Pages) (a b : NumberSet)
    → ((q : ℕ) → map_of.contains_key a q ≡ map_of.contains_key b q)
    → ◌≡◌ {A = Pages} (record s { members = a }) (record s { members = b })
same_pages s a b each =
    ap (λ m. record s { members = m }) (same_numbers a b (λ q. one_value _ _ (each q)))
  where
    one_value : (x y : Option (Unit {0})) → is_some x ≡ is_some y → x ≡ y
    one_value None None e = refl
    one_value (Some u) (Some v) e = refl
    one_value x y e = absurd (cc e)

-- ---- taking

-- these pages have been taken from a set so far
pub record Taking (s now : Pages) (ps : List ℕ) : Type 0 where
  pub taken : AreTaken s ps
  pub left : now ≡ without s ps
  pub len : map_of.len now.members + length ps ≡ map_of.len s.members

pub taking_none : (s : Pages) → Taking s s []
taking_none s = record {
  taken = record {
    own = λ i d h. absurd (omega arith);
    had = λ i d h. absurd (omega arith);
    distinct = λ i k d h j. absurd (omega arith);
  };
  left = refl;
  len = omega arith;
}

pub taking_more : (s now next : Pages) (ps : List ℕ) (p : ℕ) → Taking s now ps
    → map_of.contains_key now.members p ≡ true → IsOf s.first s.count p
    → next ≡ record now { members = map_of.remove now.members p }
    → Taking s next (ps ++ p ∷ [])
taking_more s now next ps p t there own is =
    let parts = left_in s ps p (rw (t.left) at there) in
    let fewer = ap (λ (x : Pages). map_of.len x.members) is ∙ map_of.len-remove nat_cmp_total now.members p in
    record {
      taken = record {
        own = All-push (λ q. IsOf s.first s.count q) ps p t.taken.own own;
        had = All-push (λ q. map_of.contains_key s.members q ≡ true) ps p t.taken.had parts.0;
        distinct = all_pairs_push (λ q r. q ≢ r) ps p t.taken.distinct
            (λ i d h same. both_ways (is_in ps p) parts.1 (in_of ps i d p h same));
      };
      left = is ∙ ap (λ (x : Pages). record x { members = map_of.remove x.members p }) t.left
          ∙ ap (λ m. record s { members = m }) (sym (fold_push map_of.remove s.members ps p));
      len = grind (arith, there, fewer, length-append ps (p ∷ []), t.len, some_in now.members p there);
    }

-- a set from which fewer pages were taken than it had has one left
pub has_one : (s now : Pages) (ps : List ℕ) (all : ℕ) → Taking s now ps → length ps < all
    → all ≤ map_of.len s.members → now.members ≢ map_of.empty
has_one s now ps all t below enough = λ none.
    let no = ap (λ (m : NumberSet). map_of.len m) none ∙ map_of.len-empty nat_cmp (Unit {0}) in omega (arith, t.len)

-- what a take answers
abbrev pub Took : Pages → Pages → Option ℕ → Type 0
Took now new r = MatchOption r ((now.members ≡ map_of.empty) × (new ≡ now))
    (λ p. IsLowest now.members p × (new ≡ record now { members = map_of.remove now.members p }))

pub some_taken : (r : Option ℕ) (now new : Pages) → now.members ≢ map_of.empty → Took now new r → IsSome r
some_taken None now new has found = absurd (has found.0)
some_taken (Some p) now new has found = refl

-- the next page is taken
pub taking_next : (s now new : Pages) (ps : List ℕ) (r : Option ℕ) (p : ℕ) → Taking s now ps → r ≡ Some p
    → Took now new r → IfSome r (IsOf now.first now.count) → Taking s new (ps ++ p ∷ [])
taking_next s now new ps r p t is found own =
    let one = rw is at found in
    let of_these = subst (λ (x : Pages). IsOf x.first x.count p) t.left (rw is at own) in
    taking_more s now new ps p t one.0.member of_these one.1

-- ---- the lowest pages

pub lowest_none : (s : Pages) → AreLowest s []
lowest_none s = record { order = λ i k d h j. absurd (omega arith); lowest = λ i d h. absurd (omega arith) }

-- the lowest page of what is left is taken too
pub lowest_more : (s now : Pages) (ps : List ℕ) (p : ℕ) → now ≡ without s ps → map_of.contains_key now.members p ≡ true
    → ((q : ℕ) → q < p → map_of.contains_key now.members q ≡ false) → AreLowest s ps → AreLowest s (ps ++ p ∷ [])
lowest_more s now ps p left there least low = record {
  order = all_pairs_push (λ q r. q < r) ps p low.order (λ i d h. low.lowest i d h p (rw left at there));
  lowest = All-push (λ x. (q : ℕ) → map_of.contains_key (without s (ps ++ p ∷ [])).members q ≡ true → x < q) ps p
      (λ i d h q e. low.lowest i d h q (still q e))
      (λ q e. above q (ap (λ (x : Pages). map_of.contains_key x.members q) left ∙ still q e) (no_other q e));
}
  where
    -- what is left then was left before
    still : (q : ℕ) → map_of.contains_key (without s (ps ++ p ∷ [])).members q ≡ true
        → map_of.contains_key (without s ps).members q ≡ true
    still q e = let parts = left_in s (ps ++ p ∷ []) q e in grind (arith, without_in, in_push, parts.0, parts.1)

    no_other : (q : ℕ) → map_of.contains_key (without s (ps ++ p ∷ [])).members q ≡ true → q ≢ p
    no_other q e = let out = (left_in s (ps ++ p ∷ []) q e).1 in grind (arith, nat_tests, in_push, out)

    above : (q : ℕ) → map_of.contains_key now.members q ≡ true → q ≢ p → p < q
    above q here other = elim (cases_lt q p) [
      | inl l ↦ absurd (both_ways (map_of.contains_key now.members q) (least q l) here)
      | inr g ↦ omega (arith, other, g)
    ]

pub lowest_next : (s now new : Pages) (ps : List ℕ) (r : Option ℕ) (p : ℕ) → now ≡ without s ps → r ≡ Some p
    → Took now new r → AreLowest s ps → AreLowest s (ps ++ p ∷ [])
lowest_next s now new ps r p left is found low =
    let one = (rw is at found).0 in lowest_more s now ps p left one.member one.least low

-- ---- giving back

pub giving_more : (s now next : Pages) (ps : List ℕ) (p : ℕ) → now ≡ with_pages s ps
    → next ≡ record now { members = insert now.members p }
    → next ≡ with_pages s (ps ++ p ∷ [])
giving_more s now next ps p is more =
    more ∙ ap (λ (x : Pages). record x { members = insert x.members p }) is
    ∙ ap (λ m. record s { members = m }) (sym (fold_push insert s.members ps p))

-- the next page isn't in the set yet
pub not_given : (s now : Pages) (pages : List ℕ) (at : ℕ) → now ≡ with_pages s (take at pages) → at < length pages
    → All (λ p. map_of.contains_key s.members p ≡ false) pages → AllPairs (λ p q. p ≢ q) pages
    → map_of.contains_key now.members (get_or pages at 0) ≡ false
not_given s now pages at is below none distinct =
    let p = get_or pages at 0 in
    ap (λ (x : Pages). map_of.contains_key x.members p) is ∙ with_in s.members (take at pages) p
    ∙ or_from (map_of.contains_key s.members p) (is_in (take at pages) p) (none at 0 below)
    (not_before pages at below distinct)

-- what holds for each element holds for one that is in the list
pub in_all : (P : ℕ → Type 0) (pages : List ℕ) (q : ℕ) → All P pages → is_in pages q ≡ true → P q
in_all P [] q each e = absurd (cc)
in_all P (x ∷ pages) q each e =
    elim (or_cases (nat_eq x q) (is_in pages q) e) [
      | inl same ↦ let is : x ≡ q = grind (arith, nat_tests, same) in subst P is (each 0 0 (omega arith))
      | inr later ↦ in_all P pages q (λ i d h. each (suc i) d (omega arith)) later
    ]

-- a set doesn't have a page that was taken from it
pub without_none : (s : Pages) (ps : List ℕ) (i d : ℕ) → i < length ps
    → map_of.contains_key (without s ps).members (get_or ps i d) ≡ false
without_none s ps i d h = grind (arith, without_in s.members ps (get_or ps i d), in_of ps i d (get_or ps i d) h refl)
