-- The names of the fields of a geometry, and the texts of a driver's errors.
use Rattle.std.specs.Prelude.{ℕ, List, ◌++◌, codes}
use Rattle.nv_driver.specs.declared.error.DriverError.{DriverError}
use Rattle.nv_driver.specs.declared.error.DriverError.TheVariants.{Geometry, Memory, NoReady}
use Rattle.nv_driver.specs.declared.geometry_field.GeometryField.{GeometryField}
use Rattle.nv_driver.specs.declared.geometry_field.GeometryField.TheVariants.{Depth, PageSize}
use Rattle.nv_driver.specs.declared.geometry_field.GeometryField.TheVariants.{Offset, ListOffset}
use Rattle.nv_driver.specs.declared.geometry_field.GeometryField.TheVariants.{Window, Pace}

-- the name of each field
unfoldable pub field_name : GeometryField → List ℕ
field_name Depth = codes "depth"
field_name PageSize = codes "page_size"
field_name Offset = codes "offset"
field_name ListOffset = codes "list_offset"
field_name Window = codes "window"
field_name Pace = codes "pace"

-- the text of each error
abbrev pub error_text : DriverError → List ℕ
error_text (Geometry field) = codes "geometry: " ++ field_name field
error_text Memory = codes "out of memory"
error_text NoReady = codes "no ready"
