-- A list that is changed at one index.
use Rattle.std.proofs.Common.{◌≡◌, ℕ, zero, suc, ◌+◌, ◌<◌, ap, refl, arith, Bool, List, [], ◌∷◌, fold, length}
use Rattle.std.proofs.Common.{map, set, get_or, rules}
use Rattle.nv_model.proofs.Words.{All, changed_at, count_by, option_map_or, slice_get}

-- writing an element whose view is f of the old one's changes the list of views by f at that index
pub views_changed : {X Y : Type 0} (view : X → Y) (f : Y → Y) (xs : List X) (i : ℕ) (y d : X) → i
    < length xs → view y ≡ f (view (get_or xs i d)) → map view (set xs i y)
    ≡ changed_at (map view xs) i f
views_changed view f [] i y d h e = absurd (omega arith)
views_changed view f (x ∷ xs) zero y d h e = ap (λ v. v ∷ map view xs) e
views_changed view f (x ∷ xs) (suc i) y d h e = search (rules, views_changed view f xs i y d (omega arith) e)

-- a list with an element changed is as long as before
pub length-changed_at : {Y : Type 0} (f : Y → Y) (ys : List Y) (i : ℕ) → length (changed_at ys i f)
    ≡ length ys
length-changed_at f [] i = refl
length-changed_at f (y ∷ ys) zero = refl
length-changed_at f (y ∷ ys) (suc i) = ap suc (length-changed_at f ys i)

-- a relation that holds between each element and itself, and between each element and what f makes of it, holds at each
-- index
pub each_place : {Y : Type 0} (R : Y → Y → Type 0) (f : Y → Y) → ((y : Y) → R y y)
    → ((y : Y) → R y (f y)) → (ys : List Y) (i k : ℕ) (d : Y)
    → R (get_or ys k d) (get_or (changed_at ys i f) k d)
each_place R f same next [] i k d = same d
each_place R f same next (y ∷ ys) zero zero d = next y
each_place R f same next (y ∷ ys) zero (suc k) d = same (get_or ys k d)
each_place R f same next (y ∷ ys) (suc i) zero d = same y
each_place R f same next (y ∷ ys) (suc i) (suc k) d = each_place R f same next ys i k d

-- what f preserves holds for each element after one was changed by f
pub All-changed_at : {Y : Type 0} (P : Y → Type 0) (f : Y → Y) → ((y : Y) → P y → P (f y))
    → (ys : List Y) (i : ℕ) → All P ys → All P (changed_at ys i f)
All-changed_at P f keeps ys i all k d h =
    each_place (λ a b. P a → P b) f (λ y p. p) keeps ys i k d
    (all k d (omega (arith, length-changed_at f ys i)))

-- what is read of an element doesn't depend on a change that keeps it
pub slice_get-changed_at : {X Y : Type 0} (view : X → Y) (none : Y) (f : X → X) → ((x : X) → view (f x) ≡ view x)
    → (xs : List X) (i k : ℕ) → option_map_or view (slice_get (changed_at xs i f) k) none
    ≡ option_map_or view (slice_get xs k) none
slice_get-changed_at view none f same [] i k = refl
slice_get-changed_at view none f same (x ∷ xs) zero zero = same x
slice_get-changed_at view none f same (x ∷ xs) zero (suc k) = refl
slice_get-changed_at view none f same (x ∷ xs) (suc i) zero = refl
slice_get-changed_at view none f same (x ∷ xs) (suc i) (suc k) = slice_get-changed_at view none f same xs i k

-- a sum over the elements doesn't depend on a change that leaves what is added up as it is
fold-changed_at : {Y : Type 0} (h : Y → ℕ) (f : Y → Y) → ((y : Y) → h (f y) ≡ h y)
    → (ys : List Y) (i a : ℕ) → fold (λ n y. n + h y) a (changed_at ys i f)
    ≡ fold (λ n y. n + h y) a ys
fold-changed_at h f same [] i a = refl
fold-changed_at h f same (y ∷ ys) zero a = ap (λ n. fold (λ n y. n + h y) (a + n) ys) (same y)
fold-changed_at h f same (y ∷ ys) (suc i) a = fold-changed_at h f same ys i (a + h y)

-- a count doesn't depend on a change that keeps whether an element is counted
pub count_by-changed_at : {Y : Type 0} (p : Y → Bool) (f : Y → Y) → ((y : Y) → p (f y) ≡ p y)
    → (ys : List Y) (i : ℕ) → count_by p (changed_at ys i f) ≡ count_by p ys
count_by-changed_at p f same ys i = search (rules, fold-changed_at)
