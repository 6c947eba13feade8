-- The text of a fault, as a program in C gets it.
use Rattle.std.specs.Prelude.{◌≡◌, ◌-◌, ◌++◌, ℕ, ℤ, pos, List, [], length, replicate, take, Result, Ok, Err, ◌⊎◌}
use Rattle.nv_file.specs.FaultText.{fault_text}
use Rattle.nv_file.specs.declared.error.SubsystemError.{SubsystemError}
use Rattle.nv_file.specs.declared.error.SubsystemError.TheVariants as fault
use Rattle.nv_model.specs.State.{State}
use Rattle.nvme_controller.specs.Calls.{number_of}

-- a text in `room` bytes, cut so that a zero byte ends it, and filled up with zeros
abbrev pub c_text : ℕ → List ℕ → List ℕ
c_text room text =
    let shown = take (room - 1) text in shown ++ replicate (room - length shown) 0

-- the number of a fault, and its text in these bytes
abbrev pub TellsFault : SubsystemError → ℤ → List ℕ → Type 0
TellsFault e number bytes =
    (number ≡ number_of e) × (bytes ≡ c_text (length bytes) (fault_text e))

-- the first fault of a file, or 0 and an empty text if it has none
abbrev pub TellsFile : Result State SubsystemError → ℤ → List ℕ → Type 0
TellsFile (Ok s) number bytes = (number ≡ pos 0) × (bytes ≡ c_text (length bytes) [])
TellsFile (Err e) number bytes = TellsFault e number bytes

-- the first fault of a file, if there may be too little memory
abbrev pub Tells : Result State SubsystemError → ℤ → List ℕ → Type 0
Tells file number bytes = TellsFault fault.Memory number bytes ⊎ TellsFile file number bytes
