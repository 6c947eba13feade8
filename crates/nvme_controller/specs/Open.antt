-- The machine of a handle that has been opened and not closed.
use Rattle.std.specs.Prelude.{Option, Some, None, IsSomeAnd}
use Rattle.nv_bus.specs.Bus.{IsBus}
use Rattle.nv_controller.specs.Machine.{MachineValue, bus_of}

-- there is a machine, and it is a lawful bus
abbrev pub IsOpen : Option MachineValue → Type 0
IsOpen o = IsSomeAnd o (λ m. IsBus (bus_of m))

-- a machine before a call and after it
abbrev pub Goes : Option MachineValue → Option MachineValue → (MachineValue → MachineValue → Type 0) → Type 0
Goes (Some m) (Some m') P = P m m'
Goes (Some m) None P = ⊥
Goes None o P = ⊥
