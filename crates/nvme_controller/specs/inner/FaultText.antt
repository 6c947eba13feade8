-- The fault because of which a machine couldn't be opened.
use Rattle.std.specs.Prelude.{◌≡◌, Result, Err, ◌⊎◌}
use Rattle.nv_file.specs.declared.error.SubsystemError.{SubsystemError}
use Rattle.nv_file.specs.declared.error.SubsystemError.TheVariants as fault
use Rattle.nv_model.specs.State.{State}

-- the file's first fault, or too little memory
abbrev pub IsFaultOf : Result State SubsystemError → SubsystemError → Type 0
IsFaultOf file e = (e ≡ fault.Memory) ⊎ (file ≡ Err e)
