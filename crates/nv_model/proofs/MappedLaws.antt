-- Lists that are mapped, and counts of what passes a test.
use Rattle.std.proofs.lemmas.Grind.{common_steps}
use Rattle.std.proofs.Common.{◌≡◌, ℕ, zero, suc, ◌≤◌, Bool, true, false, cond, List, [], ◌∷◌, map, length, get_or, refl}
use Rattle.std.proofs.Common.{sym, ap, subst, arith, ◌<◌, ◌||◌, ◌++◌, take, drop, set, rules}
use Rattle.nv_model.proofs.Words.{All, AllPairs, count_by, get_or-map, length-map, list_any, sum_by-cons}

-- if every element fails a test, the count of elements that pass it is 0
pub none_pass : {X : Type 0} (p : X → Bool) (xs : List X) → All (λ x. p x ≡ false) xs
    → count_by p xs ≡ 0
none_pass p [] h = refl
none_pass p (x ∷ xs) h =
    let here : p x ≡ false = h zero x (omega arith) in
    let one : ◌≡◌ {A = ℕ} (cond (p x) 1 0) 0 = ap (λ b. cond b 1 0) here in
    omega (
      arith,
      sum_by-cons (λ x. cond (p x) 1 0) x xs,
      none_pass p xs (λ k d b. h (suc k) d (omega arith)),
      one,
    )

-- what isn't true is false
pub untrue : (b : Bool) → (b ≡ true → ⊥) → b ≡ false
untrue b h = search rules

-- if pairs of elements are related by what f makes of them, pairs of the mapped list are related
pub pairs_map : {X Y : Type 0} (R : Y → Y → Type 0) (f : X → Y) (xs : List X)
    → AllPairs (λ a b. R (f a) (f b)) xs → AllPairs R (map f xs)
pairs_map R f [] h i j d a b = absurd (omega arith)
pairs_map R f (x ∷ xs) h i j d a b =
    let len : length (map f (x ∷ xs)) ≡ length (x ∷ xs) = length-map (x ∷ xs) f in
    let first = get_or-map f (x ∷ xs) i x d (omega arith) in
    let second = get_or-map f (x ∷ xs) j x d (omega arith) in
    subst (λ y. R y (get_or (map f (x ∷ xs)) j d)) (sym first)
    (subst (R (f (get_or (x ∷ xs) i x))) (sym second) (h i j x a (omega arith)))

-- a count over a mapped list is the count of the elements whose image passes
pub count_by-map : {X Y : Type 0} (p : Y → Bool) (f : X → Y) (q : X → Bool)
    → ((x : X) → p (f x) ≡ q x) → (xs : List X) → count_by p (map f xs) ≡ count_by q xs
count_by-map p f q h e = grind (arith, common_steps)

-- if each element whose image passes p passes q, no more images pass p than elements pass q
pub count_by-map_le : {X Y : Type 0} (p : Y → Bool) (f : X → Y) (q : X → Bool)
    → ((x : X) → p (f x) ≡ true → q x ≡ true) → (xs : List X)
    → count_by p (map f xs) ≤ count_by q xs
count_by-map_le p f q fewer [] = omega arith
count_by-map_le p f q fewer (x ∷ xs) = grind (arith, common_steps, count_by-map_le p f q fewer xs)

-- a mapped list has an element that passes if and only if the image of an element passes
pub list_any-map : {X Y : Type 0} (p : Y → Bool) (f : X → Y) (xs : List X) → list_any p (map f xs)
    ≡ list_any (λ x. p (f x)) xs
list_any-map p f [] = refl
list_any-map p f (x ∷ xs) = ap (λ b. p (f x) || b) (list_any-map p f xs)

-- overwriting element i by its image adds one to the overwritten elements and takes one from the mapped rest
pub next_mapped : {X Y : Type 0} (view : X → Y) (f : Y → Y) (xs : List X) (i : ℕ) (y d : X)
    → i < length xs → view y ≡ f (view (get_or xs i d))
    → take (suc i) (map view (set xs i y)) ++ map f (drop (suc i) (map view (set xs i y)))
    ≡ take i (map view xs) ++ map f (drop i (map view xs))
next_mapped view f [] i y d h e = absurd (omega arith)
next_mapped view f (x ∷ xs) zero y d h e = ap (λ v. v ∷ map f (map view xs)) e
next_mapped view f (x ∷ xs) (suc i) y d h e = search (rules, next_mapped view f xs i y d (omega arith) e)
