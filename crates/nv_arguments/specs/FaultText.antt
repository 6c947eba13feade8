-- How a program reports a fault of its arguments.
use Rattle.std.specs.Prelude.{ℕ, List, codes}
use Rattle.nv_arguments.specs.declared.fault.ArgumentsFault.{ArgumentsFault}
use Rattle.nv_arguments.specs.declared.fault.ArgumentsFault.TheVariants.{Memory, Refused}

-- the text of each fault
abbrev pub fault_text : ArgumentsFault → List ℕ
fault_text Refused = codes "arguments"
fault_text Memory = codes "out of memory"
