-- The faults of a line, as texts.
use Rattle.std.specs.Prelude.{◌++◌, ℕ, List, codes}
use Rattle.nv_line.specs.OptionName.{name_of}
use Rattle.nv_line.specs.declared.fault.LineFault.{LineFault}
use Rattle.nv_line.specs.declared.fault.LineFault.TheVariants as fault

-- the text of each fault
abbrev pub fault_text : LineFault → List ℕ
fault_text fault.NotText = codes "not UTF-8 text"
fault_text fault.Usage = codes "usage error"
fault_text fault.Device = codes "no such device"
fault_text (fault.Number option) = codes "bad number for --" ++ name_of option
fault_text fault.Memory = codes "out of memory"
fault_text fault.TooLong = codes "line too long"
