-- Whether one of a slice has a number, as `any` over the slice says.
use Rattle.std.proofs.Common.{◌≡◌, ◌∙◌, ◌==◌, ℕ, Bool, List, Bor, map, sym}
use Rattle.std.proofs.lemmas.Iterator.Search.{any_from_yields_List}
use Rattle.std.specs.Fn.{Called}
use Rattle.std.specs.Iterator.{ChecksAny}
use Rattle.nv_file.specs.KeyChecks.{is_among}
use denote.Param.Members.{Mut}
use Rattle.nv_file.proofs.Words.{list_any-map, Option, YieldsList}

-- whether `any` finds the number in a slice is whether it is among the numbers of the elements
pub any_is_among : {S A F : Type 0} {steps : S → Option (Bor A) → S → Type 0} {g : Mut F (Bor A × Unit {0}) Bool}
    {s : S} (number_of : A → ℕ) (n : ℕ) (xs : List A) (u : S) (f : F) (r : Bool)
    → ChecksAny steps g s f r u → YieldsList steps (λ x. x.now) s xs
    → ((x : Bor A) (b : Bool) (q : F) → Called g f (x, tt) b q → (q ≡ f) × (b ≡ (number_of x.now == n)))
    → r ≡ is_among (map number_of xs) n
unfolding is_among
any_is_among number_of n xs u f r ran yields tests =
    any_from_yields_List (λ x. number_of x == n) u f r ran yields tests
    ∙ sym (list_any-map (λ other. other == n) number_of xs)
