-- Why a program stops, and the exit status with which it stops.
use Rattle.std.specs.Prelude.{ℕ, Result, Ok, Err}
use Rattle.std.specs.declared.io.ErrorKind.{ErrorKind}
use Rattle.std.specs.declared.io.ErrorKind.TheVariants as kind
use Rattle.nv_arguments.specs.declared.fault.ArgumentsFault.{ArgumentsFault}
use Rattle.nv_arguments.specs.declared.fault.ArgumentsFault.TheVariants as arguments
use Rattle.nv_script.specs.declared.ends.RunEnd.{RunEnd}
use Rattle.nv_script.specs.declared.ends.RunEnd.TheVariants as end
use Rattle.nv_file.specs.declared.error.SubsystemError.{SubsystemError}
use Rattle.nv_file.specs.declared.error.SubsystemError.TheVariants as error
use Rattle.nv_program.specs.declared.stop.Stop.{Stop}
use Rattle.nv_program.specs.declared.stop.Stop.TheVariants as stop

-- the exit status of each stop
abbrev pub exit_status : Stop → ℕ
exit_status stop.Arguments = 3
exit_status stop.Unreadable = 3
exit_status (stop.Subsystem e) = 3
exit_status (stop.Geometry field) = 3
exit_status stop.NoReady = 3
exit_status stop.Read = 4
exit_status stop.Short = 4
exit_status stop.TooLong = 4
exit_status stop.Write = 5
exit_status stop.Memory = 6

-- lack of memory is reported as such, and any other error as what it means there
abbrev pub unless_memory : ErrorKind → Stop → Stop
unless_memory kind.OutOfMemory otherwise = stop.Memory
unless_memory _ otherwise = otherwise

-- a stop because of a fault in the arguments, or because there was no memory
abbrev pub of_arguments : ArgumentsFault → Stop
of_arguments arguments.Refused = stop.Arguments
of_arguments arguments.Memory = stop.Memory

-- a subsystem file that was refused
abbrev pub of_file : SubsystemError → Stop
of_file error.Memory = stop.Memory
of_file e = stop.Subsystem e

-- the status of a run that reached the end of its script, or why it stopped
abbrev pub ended : RunEnd → Result ℕ Stop
ended (end.Status status) = Ok status
ended (end.Geometry field) = Err (stop.Geometry field)
ended end.NoReady = Err stop.NoReady
ended end.Read = Err stop.Read
ended end.OutWrite = Err stop.Write
ended end.MessageWrite = Err stop.Write
ended end.Memory = Err stop.Memory

-- the exit status of a program that ended so
abbrev pub status_left : Result ℕ Stop → ℕ
status_left (Ok status) = status
status_left (Err why) = exit_status why
