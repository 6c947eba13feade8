-- The pages of several outstanding commands.
use Rattle.nv_driver.proofs.Words.{[], ℕ, ◌&&◌, ◌*◌, ◌++◌, ◌+◌, ◌<◌, ◌||◌, ◌∙◌, ◌∷◌, ◌≡◌, ◌≢◌, ◌≤◌, All, All-append}
use Rattle.nv_driver.proofs.Words.{AllPairs, AreTaken, Bool, IsOf, List, Pages, Sent, add-one, ap, append-nil}
use Rattle.nv_driver.proofs.Words.{append_assoc, arith, both_ways, false, fold, fold-append, get_or, get_or-append-add}
use Rattle.nv_driver.proofs.Words.{get_or_append_left, get_or_default, length, length-append, list_any-append, nat_eq}
use Rattle.nv_driver.proofs.Words.{nat_tests, not, or_parts, own_pages, pages_of_all, refl, subst, suc, sym, take}
use Rattle.nv_driver.proofs.Words.{take-length, take_more, true, with_pages, without, zero}
use Rattle.std.proofs.lemmas.List.Kept.{AllPairs-cons}
use Rattle.nv_driver.proofs.PageSetLaws.{Taking, in_all, is_in, left_in, not_before, not_in, same_pages, taking_more}
use Rattle.nv_driver.proofs.PageSetLaws.{taking_none, with_in, without_in, without_none}
use Rattle.std.specs.FinMap as map_of

-- ---- lists of pages, one after another

is_in-append : (ps qs : List ℕ) (q : ℕ) → is_in (ps ++ qs) q ≡ (is_in ps q || is_in qs q)
is_in-append ps qs q = list_any-append (λ y. nat_eq y q) ps qs

-- what holds for all pages holds for those of a part
all_left : (P : ℕ → Type 0) (ps qs : List ℕ) → All P (ps ++ qs) → All P ps
all_left P ps qs each i d h =
    subst P (get_or_append_left ps qs d i h) (each i d (omega (arith, length-append ps qs)))

all_right : (P : ℕ → Type 0) (ps qs : List ℕ) → All P (ps ++ qs) → All P qs
all_right P ps qs each i d h =
    subst P (get_or-append-add ps qs i d) (each (length ps + i) d (omega (arith, length-append ps qs)))

-- a page of the first part is not in the second
apart_in : (ps qs : List ℕ) → AllPairs (λ p q. p ≢ q) (ps ++ qs) → (q : ℕ) → is_in ps q ≡ true → is_in qs q ≡ false
apart_in ps qs each q there =
    in_all (λ p. is_in qs p ≡ false) ps q
    (λ i d h. not_in qs (get_or ps i d) (λ j e k same.
    each i (length ps + j) d (omega arith) (omega (arith, length-append ps qs))
    (get_or_append_left ps qs d i h ∙ sym same ∙ get_or_default qs j e d k ∙ sym (get_or-append-add ps qs j d)))) there

-- two parts with distinct pages that have no page in common
pairs_append : (ps qs : List ℕ) → AllPairs (λ p q. p ≢ q) ps → AllPairs (λ p q. p ≢ q) qs
    → All (λ q. is_in ps q ≡ false) qs
    → AllPairs (λ p q. p ≢ q) (ps ++ qs)
pairs_append [] qs first second none = second
pairs_append (x ∷ ps) qs first second none =
    AllPairs-cons (λ p q. p ≢ q) x (ps ++ qs)
    (All-append (λ q. x ≢ q) ps qs (λ i d h. first 0 (suc i) d (omega arith) (omega arith))
    (λ i d h same. both_ways _ (none i d h) (grind (arith, nat_tests, same))))
    (pairs_append ps qs (λ i j d before h. first (suc i) (suc j) d (omega arith) (omega arith)) second
    (λ i d h. (or_parts _ _ (none i d h)).1))

-- ---- pages taken out of a set

-- how many pages are left
pub taken_len : (s : Pages) (ps : List ℕ) → AreTaken s ps
    → map_of.len (without s ps).members + length ps ≡ map_of.len s.members
taken_len s ps t =
    let all = (so_far (length ps) (omega arith)).len in
    subst (λ qs. map_of.len (without s qs).members + length qs ≡ map_of.len s.members) (take-length ps) all
  where
    so_far : (n : ℕ) → n ≤ length ps → Taking s (without s (take n ps)) (take n ps)
    so_far zero h = subst (λ x. Taking s x []) (taking_none s).left (taking_none s)
    so_far (suc n) h =
        let qs = take n ps in
        let p = get_or ps n 0 in
        let below : n < length ps = omega arith in
        let there : map_of.contains_key (without s qs).members p ≡ true =
        grind (arith, without_in s.members qs p, t.had n 0 below, not_before ps n below t.distinct) in
        let more = taking_more s (without s qs) _ qs p (so_far n (omega arith)) there (t.own n 0 below) refl in
        rw (← add-one n, take_more ps n 0 below) (subst (λ x. Taking s x (qs ++ p ∷ [])) more.left more)

-- more pages are taken
pub taken_also : (s : Pages) (ps qs : List ℕ) → AreTaken s ps → AreTaken (without s ps) qs → AreTaken s (ps ++ qs)
taken_also s ps qs first second = record {
  own = All-append (λ p. IsOf s.first s.count p) ps qs first.own second.own;
  had = All-append (λ p. map_of.contains_key s.members p ≡ true) ps qs first.had
      (λ i d h. (left_in s ps _ (second.had i d h)).0);
  distinct = pairs_append ps qs first.distinct second.distinct (λ i d h. (left_in s ps _ (second.had i d h)).1);
}

pub without_also : (s : Pages) (ps qs : List ℕ) → without (without s ps) qs ≡ without s (ps ++ qs)
without_also s ps qs = ap (λ m. record s { members = m }) (sym (fold-append map_of.remove s.members ps qs))

pub taken_first : (s : Pages) (qs ps : List ℕ) → AreTaken s (qs ++ ps) → AreTaken s qs
taken_first s qs ps t = record {
  own = all_left (λ p. IsOf s.first s.count p) qs ps t.own;
  had = all_left (λ p. map_of.contains_key s.members p ≡ true) qs ps t.had;
  distinct = λ i j d before h same. t.distinct i j d before (omega (arith, length-append qs ps))
      (get_or_append_left qs ps d i (omega arith) ∙ same ∙ sym (get_or_append_left qs ps d j h));
}

pub taken_rest : (s : Pages) (qs ps : List ℕ) → AreTaken s (qs ++ ps) → AreTaken s ps
taken_rest s qs ps t = record {
  own = all_right (λ p. IsOf s.first s.count p) qs ps t.own;
  had = all_right (λ p. map_of.contains_key s.members p ≡ true) qs ps t.had;
  distinct = λ i j d before h same. t.distinct (length qs + i) (length qs + j) d (omega arith)
      (omega (arith, length-append qs ps)) (get_or-append-add qs ps i d ∙ same ∙ sym (get_or-append-add qs ps j d));
}

pub gone : (s : Pages) (qs ps : List ℕ) (i d : ℕ) → i < length qs
    → map_of.contains_key (without s (qs ++ ps)).members (get_or qs i d) ≡ false
gone s qs ps i d h = all_left (λ p. map_of.contains_key (without s (qs ++ ps)).members p ≡ false) qs ps (without_none s
    (qs ++ ps)) i d h

-- the first pages are given back
pub given_back : (s : Pages) (qs ps : List ℕ) → AreTaken s (qs ++ ps)
    → with_pages (without s (qs ++ ps)) qs ≡ without s ps
given_back s qs ps t = same_pages s _ _ (λ q. by_parts q (without_in s.members (qs ++ ps) q)
    (without_in s.members ps q)
    (with_in (fold map_of.remove s.members (qs ++ ps)) qs q))
  where
    had : (q : ℕ) → is_in qs q ≡ true → (map_of.contains_key s.members q ≡ true) × (is_in ps q ≡ false)
    had q e = (
      in_all (λ p. map_of.contains_key s.members p ≡ true) qs q (taken_first s qs ps t).had e,
      apart_in qs ps
          t.distinct q e,
    )

    by_parts : (q : ℕ) {a b c : Bool} → a ≡ (map_of.contains_key s.members q && not (is_in (qs ++ ps) q))
        → b ≡ (map_of.contains_key s.members q && not (is_in ps q)) → c ≡ (a || is_in qs q) → c ≡ b
    by_parts q e f g = grind (arith, is_in-append qs ps q, had q, e, f, g)

-- none is taken
pub taken_none : (s : Pages) → AreTaken s [] × (without s [] ≡ s)
taken_none s = let none = taking_none s in (none.taken, sym none.left)

-- ---- the pages of commands

pub pages-append : (xs : List Sent) (x : Sent) → pages_of_all (xs ++ x ∷ []) ≡ pages_of_all xs ++ own_pages x
pages-append [] x = append-nil (own_pages x)
pages-append (y ∷ xs) x = ap (λ rest. own_pages y ++ rest) (pages-append xs x)
    ∙ sym (append_assoc (own_pages y) (pages_of_all xs) (own_pages x))

-- a page of one of the commands is one of all their pages
pub page_of_one : (xs : List Sent) (n : ℕ) (d : Sent) (q : ℕ) → n < length xs
    → is_in (own_pages (get_or xs n d)) q ≡ true → is_in (pages_of_all xs) q ≡ true
page_of_one [] n d q h e = absurd (omega arith)
page_of_one (x ∷ xs) zero d q h e = grind (arith, is_in-append (own_pages x) (pages_of_all xs) q, e)
page_of_one (x ∷ xs) (suc n) d q h e =
    grind (arith, is_in-append (own_pages x) (pages_of_all xs) q, page_of_one xs n d q (omega arith) e)

-- commands with at most this number of pages
pub few_pages : (m : ℕ) (xs : List Sent) → ((n : ℕ) (d : Sent) → n < length xs
    → length (own_pages (get_or xs n d)) ≤ m) → length (pages_of_all xs) ≤ length xs * m
few_pages m [] few = omega arith
few_pages m (x ∷ xs) few =
    let more = length-append (own_pages x) (pages_of_all xs) in
    let first = few 0 x (omega arith) in
    let rest = few_pages m xs (λ n d h. few (suc n) d (omega arith)) in
    omega (arith, more, first, rest)
