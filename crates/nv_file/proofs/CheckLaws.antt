-- The first check that fails, of checks one after the other.
use Rattle.std.proofs.Common.{◌≡◌, ◌∙◌, ◌⊎◌, inl, inr, Bool, true, false, if◌then◌else◌, List, [], ◌∷◌, ◌++◌, Option}
use Rattle.std.proofs.Common.{Some, None, Result, Ok, Err, refl, sym, ap}
use Rattle.nv_file.specs.Check.{Check, check, checked, first_error}
use Rattle.nv_layout.specs.UnlessMemory.{IsUnlessMemory}
use Rattle.nv_file.proofs.Words.{IsCheckedBeforeMemory, Memory, option_map_or, SubsystemError}

-- the first of two faults, or else the second
abbrev pub or_else : Option SubsystemError → Option SubsystemError → Option SubsystemError
or_else None second = second
or_else (Some e) second = Some e

-- the first fault of a check and of more checks, and then of others, doesn't depend on how they are grouped
by_first : (b : Bool) (e : SubsystemError) (r s : Option SubsystemError)
    → (if b then or_else r s else Some e) ≡ or_else (if b then r else Some e) s
by_first true e r s = refl
by_first false e r s = refl

-- the first fault of two lists of checks is the one of the first list, or else the one of the second
pub faults_append : (cs ds : List Check) → first_error (cs ++ ds) ≡ or_else (first_error cs) (first_error ds)
unfolding first_error
faults_append [] ds = refl
faults_append (c ∷ cs) ds = rw (faults_append cs ds) (by_first c.holds c.fault (first_error cs) (first_error ds))

-- an empty list of checks has no fault
pub faults_none : first_error [] ≡ None
unfolding first_error
faults_none = refl

-- a single check has its fault if it doesn't hold, and none if it does
pub fault_of : (b : Bool) (e : SubsystemError) → first_error (check b e) ≡ (if b then None else Some e)
unfolding first_error check
fault_of b e = refl

-- the fault of the second of two lists, if the first one passes
pub past : (cs ds : List Check) (o : Option SubsystemError) → first_error cs ≡ None → first_error ds ≡ o
    → first_error (cs ++ ds) ≡ o
past cs ds o passes h = faults_append cs ds ∙ ap (λ f. or_else f (first_error ds)) passes ∙ h

pub ruleset faults = (faults_append, faults_none, fault_of)

-- ---- the same as a result

-- memory ran out, or there is the fault, whatever was checked before memory ran out
pub memory_or_fault : {M F C : Type 0} → (M × F) ⊎ C → M ⊎ C
memory_or_fault (inl memory) = inl memory.0
memory_or_fault (inr fault) = inr fault

-- a fault of the first checks is returned, regardless of memory
pub first_fault : {X Y : Type 0} (view : X → Y) (first checks : List Check) (value : Y)
    (r : Result X SubsystemError) (e : SubsystemError) → first_error first ≡ Some e → first_error checks ≡ Some e
    → IsCheckedBeforeMemory view first checks value r → r ≡ Err e
first_fault view first checks value (Ok x) e fails is h = absurd (cc (is, h.0))
first_fault view first checks value (Err d) e fails is (inl memory) = absurd (cc (fails, memory.1))
first_fault view first checks value (Err d) e fails is (inr fault) = cc (is, fault)

-- a result that is checked is the value or the first fault, unless memory ran out
pub answers : {X Y : Type 0} (view : X → Y) (first checks : List Check) (value : Y) (r : Result X SubsystemError)
    → IsCheckedBeforeMemory view first checks value r → IsUnlessMemory Memory view r (checked checks value)
answers view first checks value (Ok x) h =
    ap (λ o. option_map_or (λ e. Err e) o (Ok value)) h.0 ∙ ap (λ v. Ok v) (sym h.1.0)
answers view first checks value (Err e) (inl memory) = inl memory.0
answers view first checks value (Err e) (inr fault) = inr (ap (λ o. option_map_or (λ x. Err x) o (Ok value)) fault)
