-- The subsystem and the geometry that a program's arguments ask for.
use Rattle.std.specs.Prelude.{◌≡◌, ◌≢◌, ◌<◌, ◌≤◌, ◌⊎◌, ℕ, List, length, Option, None, Some}
use Rattle.std.specs.Prelude.{Result, Ok, Err}
use Rattle.std.specs.declared.io.ErrorKind.{ErrorKind}
use Rattle.std.specs.declared.io.ErrorKind.TheVariants.{OutOfMemory}
use Rattle.nv_arguments.specs.Arguments.{Chosen}
use Rattle.nv_arguments.specs.declared.fault.ArgumentsFault.{ArgumentsFault}
use Rattle.nv_driver.specs.declared.geometry.Geometry.{Geometry}
use Rattle.nv_file.specs.Demo.{demo_text}
use Rattle.nv_model.specs.State.{State}
use Rattle.nv_program.specs.Stops.{of_arguments, unless_memory}
use Rattle.nv_program.specs.declared.stop.Stop.{Stop}
use Rattle.nv_program.specs.declared.stop.Stop.TheVariants as stop
use Rattle.nv_subsystem.specs.FromFile.{subsystem}

-- the arguments can't be read: `refused` says that reading them failed with this kind of error, which is
-- reported as lack of memory or as a refusal of the arguments
abbrev pub IsUnread : (ErrorKind → Type 0) → Stop → Type 0
IsUnread refused why = (kind : ErrorKind) × refused kind × (why ≡ unless_memory kind stop.Arguments)

-- the greatest length of a subsystem file in bytes
abbrev pub most_bytes : ℕ
most_bytes = 1048576

-- the subsystem of a file, or why the program stops: the file is refused, it has too many bytes, or
-- opening or reading it failed otherwise than by lack of memory. `had` says that these are its
-- bytes, and `failed` that it failed with this kind of error
abbrev pub IsSubsystemOf : (List ℕ → Type 0) → (ErrorKind → Type 0) → Result State Stop → Type 0
IsSubsystemOf had failed (Ok s) =
    (bytes : List ℕ) × had bytes × (length bytes ≤ most_bytes) × (subsystem bytes ≡ Ok s)
IsSubsystemOf had failed (Err (stop.Subsystem e)) =
    (bytes : List ℕ) × had bytes × (length bytes ≤ most_bytes) × (subsystem bytes ≡ Err e)
IsSubsystemOf had failed (Err stop.Unreadable) =
    ((bytes : List ℕ) × had bytes × (most_bytes < length bytes))
    ⊎ ((kind : ErrorKind) × failed kind × (kind ≢ OutOfMemory))
IsSubsystemOf had failed (Err stop.Memory) = Unit {0}
IsSubsystemOf had failed (Err _) = ⊥

-- what stops the program if it reads no file: a fault of the built-in one, or lack of memory
abbrev pub IsBuiltInStop : Stop → Type 0
IsBuiltInStop (stop.Subsystem e) = subsystem demo_text ≡ Err e
IsBuiltInStop stop.Memory = Unit {0}
IsBuiltInStop _ = ⊥

-- the subsystem of the file with a name, if there is one, and otherwise the built-in one
abbrev pub IsSubsystemAt : (List ℕ → List ℕ → Type 0) → (List ℕ → ErrorKind → Type 0) → Option (List ℕ)
    → Result State Stop → Type 0
IsSubsystemAt had failed None (Ok s) = subsystem demo_text ≡ Ok s
IsSubsystemAt had failed None (Err why) = IsBuiltInStop why
IsSubsystemAt had failed (Some path) r = IsSubsystemOf (had path) (failed path) r

-- for valid arguments: the subsystem that they name and their geometry, or a stop because of the subsystem
abbrev pub IsAskedBy : (List ℕ → List ℕ → Type 0) → (List ℕ → ErrorKind → Type 0) → Chosen
    → Result (State × Geometry) Stop → Type 0
IsAskedBy had failed chosen (Ok asked) =
    IsSubsystemAt had failed chosen.subsystem (Ok asked.0) × (asked.1 ≡ chosen.geometry)
IsAskedBy had failed chosen (Err why) = IsSubsystemAt had failed chosen.subsystem (Err why)

-- for valid arguments, the subsystem and the geometry, or a fault of the file; for others their
-- fault, unless there was no memory. `had` and `failed` are what the files say of a name
abbrev pub IsAsked : (List ℕ → List ℕ → Type 0) → (List ℕ → ErrorKind → Type 0)
    → Result Chosen ArgumentsFault → Result (State × Geometry) Stop → Type 0
IsAsked had failed (Ok chosen) r = IsAskedBy had failed chosen r
IsAsked had failed (Err fault) r = (r ≡ Err stop.Memory) ⊎ (r ≡ Err (of_arguments fault))
