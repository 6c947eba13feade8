-- Laws of the features in their table.
use Rattle.std.proofs.Common.{◌≡◌, ℕ, ◌<◌, ◌^◌, ◌==◌, Bool, true, false, rules}
use Rattle.std.proofs.Common.{List, [], ◌∷◌, length, Some, refl, arith}
use Rattle.std.proofs.Common.{nat_lt}
use Rattle.std.specs.List.{filter, list_any, list_all}
use Rattle.std.proofs.lemmas.Bool.{and_parts}
use Rattle.std.proofs.lemmas.Bool.Decides.{nat_tests}
use Rattle.std.proofs.lemmas.Nat.{and_assoc}
use Rattle.nv_layout.specs.Feature.{feature_of, is_accepted, is_selector, is_value, row_of}
use Rattle.nv_layout.specs.Feature.{stored}
use Rattle.nv_layout.specs.declared.feature.Feature.{Feature}
use Rattle.nv_layout.specs.declared.feature.Feature.TheVariants as feature

-- looking up the identifier in a feature's row finds that feature
pub feature_at : (f : Feature) → feature_of (row_of f).fid ≡ Some f
feature_at f = search rules

-- a feature that is found has the identifier
pub feature_with : (fid : ℕ) (f : Feature) → feature_of fid ≡ Some f → fid ≡ (row_of f).fid
feature_with fid f e = search rules

-- ---- namespaces

-- only Error Recovery has a value for each namespace
pub of_namespaces : (f : Feature) → (row_of f).per_namespace ≡ true → f ≡ feature.ErrorRecovery
of_namespaces f h = search rules

-- any other feature has another identifier
pub other_identifier : (f : Feature) → (row_of f).per_namespace ≡ false
    → ((row_of f).fid == (row_of feature.ErrorRecovery).fid) ≡ false
other_identifier f h = search rules

-- ---- selectors

-- every selector of a feature is below 32
all_below : (f : Feature) → list_all (λ s. nat_lt s 32) (row_of f).selectors ≡ true
all_below f = search rules

-- if all numbers of a list are below 32, so is each number that the list has
one_below : (xs : List ℕ) (s : ℕ) → list_all (λ x. nat_lt x 32) xs ≡ true
    → list_any (λ x. x == s) xs ≡ true → s < 32
one_below [] s all any = absurd (cc any)
one_below (x ∷ xs) s all any = grind (arith, nat_tests, and_parts, one_below xs s)

-- a selector of a feature is below 32
pub selector_below : (f : Feature) (s : ℕ) → is_selector f s ≡ true → s < 32
selector_below f s e = one_below (row_of f).selectors s (all_below f) e

-- ---- values

-- 0 may be a stored value of every feature
pub default_is_value : (f : Feature) → is_value f 0 ≡ true
default_is_value f = cc

-- each number that may be a stored value is a number of 32 bits
pub value_fits : (f : Feature) (v : ℕ) → is_value f v ≡ true → v < 2 ^ 32
value_fits f v e = search rules

-- the part of an accepted dword that is stored may be a stored value
pub stored_is_value : (f : Feature) (d : ℕ) → is_accepted f d ≡ true → is_value f (stored f d)
    ≡ true
stored_is_value f d e = search (rules, and_assoc)

-- a list has an element that passes a test if and only if the filtered list isn't empty
pub some_kept : (p : ℕ → Bool) (xs : List ℕ) → list_any p xs ≡ nat_lt 0 (length (filter p xs))
some_kept p [] = refl
some_kept p (x ∷ xs) = grind (arith, nat_tests, some_kept p xs)
