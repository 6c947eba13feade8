-- The controllers of a subsystem with their driver.
use Rattle.std.specs.Prelude.{◌≡◌, Option, Some, None}
use Rattle.nv_bus.specs.Bus.{BusValue, IsBus}
use Rattle.nv_controller.specs.Machine.{MachineValue, bus_of}
use Rattle.nv_driver.specs.Driver.{HasEntryPages}
use Rattle.nv_driver.specs.Registers.{banks_of}
use Rattle.nv_driver.specs.Settled.{DriverValue}

-- the registers are as the driver left them, and its pages hold the data of any entry
abbrev pub IsLeft : BusValue → Option DriverValue → Type 0
IsLeft b None = Unit {0}
IsLeft b (Some d) = (b.banks ≡ banks_of d) × HasEntryPages d

-- a lawful bus, whose registers and pages are as its driver left them if it has one
pub record IsDevice (m : MachineValue) (driver : Option DriverValue) : Type 0 where
  pub bus : IsBus (bus_of m)
  pub left : IsLeft (bus_of m) driver
