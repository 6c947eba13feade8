-- How a program says why it stops.
use Rattle.std.specs.Prelude.{ℕ, List, ◌++◌, codes}
use Rattle.nv_arguments.specs.FaultText as arguments
use Rattle.nv_arguments.specs.declared.fault.ArgumentsFault.TheVariants.{Refused}
use Rattle.nv_file.specs.FaultText as file
use Rattle.nv_script.specs.EndText.{end_text}
use Rattle.nv_script.specs.declared.ends.RunEnd.TheVariants as end
use Rattle.nv_program.specs.declared.stop.Stop.{Stop}
use Rattle.nv_program.specs.declared.stop.Stop.TheVariants as stop

-- the text that tells why a program stops
abbrev pub stop_text : Stop → List ℕ
stop_text stop.Arguments = arguments.fault_text Refused
stop_text stop.Unreadable = codes "subsystem: unreadable"
stop_text (stop.Subsystem error) = codes "subsystem: " ++ file.fault_text error
stop_text (stop.Geometry field) = end_text (end.Geometry field)
stop_text stop.NoReady = end_text end.NoReady
stop_text stop.Read = end_text end.Read
stop_text stop.Short = codes "request cut short"
stop_text stop.TooLong = codes "request too long"
stop_text stop.Write = end_text end.OutWrite
stop_text stop.Memory = end_text end.Memory
