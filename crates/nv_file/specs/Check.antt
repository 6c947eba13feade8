-- The checks of a file as ordered rows: the first one that fails decides.
use Rattle.std.specs.Prelude.{Bool, List, [], ◌∷◌, Option, Some, None, Result, Ok, Err, if◌then◌else◌}
use Rattle.std.specs.Option.{option_map_or}
use Rattle.nv_file.specs.declared.error.SubsystemError.{SubsystemError}

-- what must hold, and the fault of a file in which it does not
pub record Check : Type 0 where
  pub holds : Bool
  pub fault : SubsystemError

-- a list with this one check
unfoldable pub check : Bool → SubsystemError → List Check
check holds fault = record { holds = holds; fault = fault } ∷ []

-- the error of the first check that fails, if one does
unfoldable pub first_error : List Check → Option SubsystemError
first_error [] = None
first_error (c ∷ checks) = if c.holds then first_error checks else Some c.fault

-- the first fault, or the value if no check fails
abbrev pub checked : {A : Type 0} → List Check → A → Result A SubsystemError
checked checks value = option_map_or (λ fault. Err fault) (first_error checks) (Ok value)
