-- How a program reports the end of a run.
use Rattle.std.specs.Prelude.{ℕ, List, ◌++◌, codes}
use Rattle.std.specs.Fmt.{decimal}
use Rattle.nv_driver.specs.Names.{error_text}
use Rattle.nv_driver.specs.declared.error.DriverError.TheVariants as error
use Rattle.nv_script.specs.declared.ends.RunEnd.{RunEnd}
use Rattle.nv_script.specs.declared.ends.RunEnd.TheVariants as end

-- the text of each end
abbrev pub end_text : RunEnd → List ℕ
end_text (end.Status status) = codes "status " ++ decimal status
end_text (end.Geometry field) = error_text (error.Geometry field)
end_text end.NoReady = error_text error.NoReady
end_text end.Read = codes "read fault"
end_text end.OutWrite = codes "write fault"
end_text end.MessageWrite = codes "write fault"
end_text end.Memory = error_text error.Memory
