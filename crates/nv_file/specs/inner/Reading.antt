-- The result of reading, by the checks of what is read and by what it holds.
use Rattle.std.specs.Prelude.{◌≡◌, ◌⊎◌, List, None, Some, Result, Ok, Err}
use Rattle.nv_file.specs.declared.error.SubsystemError.{SubsystemError}
use Rattle.nv_file.specs.declared.error.SubsystemError.TheVariants.{Memory}
use Rattle.nv_file.specs.Check.{Check, first_error}

-- the result is the answer, as `view` sees it
abbrev pub IsAnswer : {X Y : Type 0} → (X → Y) → Result X SubsystemError
    → Result Y SubsystemError → Type 0
IsAnswer view (Ok x) answer = answer ≡ Ok (view x)
IsAnswer view (Err e) answer = answer ≡ Err e

-- the value, as `view` sees it, or the fault of the first check that fails
abbrev pub IsChecked : {X Y : Type 0} → (X → Y) → List Check → Y → Result X SubsystemError → Type 0
IsChecked view checks value (Ok x) = (first_error checks ≡ None) × (view x ≡ value)
IsChecked view checks value (Err e) = first_error checks ≡ Some e

-- nothing, or the fault of the first check that fails
abbrev pub IsPassed : List Check → Result (Unit {0}) SubsystemError → Type 0
IsPassed checks (Ok _) = first_error checks ≡ None
IsPassed checks (Err e) = first_error checks ≡ Some e

-- the value or the fault of the first check that fails, unless memory ran out
abbrev pub IsCheckedUnlessMemory : {X Y : Type 0} → (X → Y) → List Check → Y
    → Result X SubsystemError → Type 0
IsCheckedUnlessMemory view checks value (Ok x) = (first_error checks ≡ None) × (view x ≡ value)
IsCheckedUnlessMemory view checks value (Err e) = (e ≡ Memory) ⊎ (first_error checks ≡ Some e)

-- the same, where memory can run out only if none of the first checks fails
abbrev pub IsCheckedBeforeMemory : {X Y : Type 0} → (X → Y) → List Check → List Check → Y
    → Result X SubsystemError → Type 0
IsCheckedBeforeMemory view first checks value (Ok x) =
    (first_error checks ≡ None) × ((view x ≡ value) × (first_error first ≡ None))
IsCheckedBeforeMemory view first checks value (Err e) =
    ((e ≡ Memory) × (first_error first ≡ None)) ⊎ (first_error checks ≡ Some e)
