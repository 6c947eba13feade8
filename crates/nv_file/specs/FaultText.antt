-- The texts of faults.
use Rattle.std.specs.Prelude.{◌++◌, ℕ, List, codes}
use Rattle.nv_file.specs.Names.{key_text, table_text}
use Rattle.nv_file.specs.declared.error.SubsystemError.{SubsystemError}
use Rattle.nv_file.specs.declared.error.SubsystemError.TheVariants as fault
use Rattle.nv_file.specs.declared.key.Key.{Key}
use Rattle.nv_file.specs.declared.table_name.TableName.{TableName}

-- a key of a table
abbrev pub place_text : TableName → Key → List ℕ
place_text table key = table_text table ++ codes "." ++ key_text key

-- the text of each fault
abbrev pub fault_text : SubsystemError → List ℕ
fault_text fault.NotToml = codes "not TOML"
fault_text (fault.Missing table key) = codes "missing " ++ place_text table key
fault_text (fault.Kind table key) = codes "wrong kind " ++ place_text table key
fault_text (fault.Range table key) = codes "out of range " ++ place_text table key
fault_text (fault.Repeated table key) = codes "repeated " ++ place_text table key
fault_text (fault.Unknown table) = codes "unknown key in " ++ table_text table
fault_text fault.Capacity = codes "capacity"
fault_text fault.Attachment = codes "attachment"
fault_text fault.Memory = codes "out of memory"
