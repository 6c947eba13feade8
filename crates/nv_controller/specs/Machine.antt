-- The value of the controllers of a subsystem, with the phase tags in its logs.
use Rattle.std.specs.Prelude.{◌≡◌, ℕ, List, if◌then◌else◌, slice_set}
use Rattle.nv_register.specs.RegisterBank.{stops_at, with_register_at}
use Rattle.nv_register.specs.declared.register_bank.RegisterBank.{RegisterBank}
use Rattle.nv_model.specs.State.{State}
use Rattle.nv_model.specs.Step.{reset}
use Rattle.nv_bus.specs.Bus.{BusValue, bank_at}
use Rattle.nv_subsystem.specs.Tagged.{untagged}

-- the subsystem with phase tags, and for each controller its registers and rings
pub record MachineValue : Type 0 where
  pub state : State
  pub banks : List RegisterBank

-- the bus, which doesn't show phase tags
abbrev pub bus_of : MachineValue → BusValue
bus_of m = record { state = untagged m.state; banks = m.banks }

-- the subsystem after a write: clearing an EN that was 1 resets the controller
abbrev pub machine_written : MachineValue → ℕ → ℕ → ℕ → State
machine_written m c offset x =
    if stops_at (bank_at m.banks c) offset x then reset m.state c else m.state

-- a write to a register of controller c
pub record Writes (m : MachineValue) (c offset x : ℕ) (m' : MachineValue) : Type 0 where
  pub state : m'.state ≡ machine_written m c offset x
  pub banks : m'.banks ≡ slice_set m.banks c (with_register_at (bank_at m.banks c) offset x)
