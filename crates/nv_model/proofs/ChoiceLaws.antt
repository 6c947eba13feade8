-- Choices that depend on a test.
use Rattle.std.proofs.Common.{Bool, rules}
use Rattle.nv_model.proofs.Words.{if◌then◌else◌}

-- what holds for both holds for the one that is chosen
pub chosen_fits : {A : Type 0} (P : A → Type 0) (b : Bool) (x y : A) → P x → P y
    → P (if b then x else y)
chosen_fits P b x y h e = search rules
