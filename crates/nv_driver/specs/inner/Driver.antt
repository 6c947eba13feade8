-- The value of a driver, by its fields, and what holds for them between two calls: what no public
-- contract reaches.
use Rattle.std.specs.Prelude.{Option, None, Some}
use Rattle.nv_driver.specs.declared.error.DriverError.{DriverError}
use Rattle.nv_driver.specs.declared.error.DriverError.TheVariants as error
use Rattle.nv_driver.specs.declared.geometry_field.GeometryField.{GeometryField}

-- ---- none

-- why there is no driver: the first field of the geometry that is outside its limits, or lack of memory
abbrev pub error_without : Option GeometryField → DriverError
error_without (Some field) = error.Geometry field
error_without None = error.Memory
