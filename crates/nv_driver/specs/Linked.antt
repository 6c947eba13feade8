-- A bus and its driver between two calls, and what bringing a driver up leaves.
use Rattle.std.specs.Prelude.{◌≡◌, ◌≢◌, ◌↔◌, Err, IfOk, OnErr, Result, Some}
use Rattle.nv_bus.specs.Bus.{BusValue, IsBus, enabled_in}
use Rattle.nv_model.specs.Step.{reset_where}
use Rattle.nv_driver.specs.Geometry.{geometry_fault}
use Rattle.nv_driver.specs.Registers.{banks_of}
use Rattle.nv_driver.specs.Settled.{DriverValue}
use Rattle.nv_driver.specs.declared.error.DriverError.{DriverError}
use Rattle.nv_driver.specs.declared.error.DriverError.TheVariants as error
use Rattle.nv_driver.specs.declared.geometry.Geometry.{Geometry}
use Rattle.nv_driver.specs.declared.geometry_field.GeometryField.{GeometryField}

-- a lawful bus, as this driver left it
pub record IsLinked (b : BusValue) (d : DriverValue) : Type 0 where
  pub bus : IsBus b
  pub left : b.banks ≡ banks_of d

-- the driver is this one, linked to the bus, whose enabled controllers were reset; or there is none, because
-- a field of the geometry is outside its limits or memory ran out, and the bus is unchanged
pub record IsBroughtUp (g : Geometry) (made : DriverValue) (before after : BusValue)
    (result : Result DriverValue DriverError) : Type 0 where
  pub driver : IfOk result (λ d. d ≡ made)
  pub linked : IfOk result (λ d. IsLinked after d)
  pub state : IfOk result
      (λ _. after.state ≡ reset_where (enabled_in before.banks) before.state)
  pub geometry : (field : GeometryField)
      → (result ≡ Err (error.Geometry field)) ↔ (geometry_fault g ≡ Some field)
  pub ready : result ≢ Err error.NoReady
  pub untouched : OnErr result (after ≡ before)
