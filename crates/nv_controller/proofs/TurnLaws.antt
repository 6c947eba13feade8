-- Entries taken one after another.
use Rattle.std.proofs.Common.{◌≡◌, ℕ, zero, suc, ◌+◌, refl, subst, sym, add-one, List, [], ◌∷◌, ◌++◌}
use Rattle.std.proofs.Common.{length}
use Rattle.nv_controller.proofs.Words.{AreShown, Exchange, IsWellFormed}
use Rattle.nv_controller.proofs.Words.{Scene, State, Taken, Takes}

-- this number of entries was taken, in a memory whose page size and length don't change; the
-- subsystem of the scenes was s and is t, except for tags
pub record Goes (count page_size now c : ℕ) (s t : State) (old new : Scene) : Type 0 where
  pub taken : Taken count page_size c old new
  pub well_formed : IsWellFormed t
  pub controllers : length t.controllers ≡ length s.controllers
  pub len : length new.bytes ≡ length old.bytes
  pub page : now ≡ page_size

-- k entries and one more after them are k + 1 entries
taken-suc : (k page_size c : ℕ) (old mid new : Scene) → Taken k page_size c old mid
    → Takes page_size c mid new → Taken (suc k) page_size c old new
taken-suc zero page_size c old mid new same t = (new, subst (λ (x : Scene). Takes page_size c x new) same t, refl)
taken-suc (suc k) page_size c old mid new before t =
    (before.0, before.1, taken-suc k page_size c before.0 mid new before.2 t)

-- k entries and one more after them are k + 1 entries, where the number is a sum
pub taken_more : (k page_size c : ℕ) (old mid new : Scene) → Taken k page_size c old mid
    → Takes page_size c mid new → Taken (k + 1) page_size c old new
taken_more k page_size c old mid new before t =
    subst (λ n. Taken n page_size c old new) (sym (add-one k))
    (taken-suc k page_size c old mid new before t)

-- an observer who was shown these, and then one more, was shown all of them
pub shown_more : {O : Type 0} (was_shown : O → ℕ → Exchange → O → Type 0) (c : ℕ) (es : List Exchange) (e : Exchange)
    (old mid new : O) → AreShown was_shown c es old mid → was_shown mid c e new
    → AreShown was_shown c (es ++ e ∷ []) old new
shown_more was_shown c [] e old mid new same one = (new, subst (λ o. was_shown o c e new) same one, refl)
shown_more was_shown c (first ∷ es) e old mid new all one =
    (all.0, all.1, shown_more was_shown c es e all.0 mid new all.2 one)
