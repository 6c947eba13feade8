-- The limits of a driver's geometry.
use Rattle.std.specs.Prelude.{◌≡◌, ℕ, ◌%◌, ◌<◌, ◌≤◌, ◌==◌, ◌&&◌, nat_le, nat_lt, if◌then◌else◌}
use Rattle.std.specs.Prelude.{Bool, List, [], ◌∷◌, Option, Some, None}
use Rattle.nv_host.specs.Pages.{IsPageSize, is_page_size}
use Rattle.nv_queue.specs.Numbers.{IsDepth}
use Rattle.nv_driver.specs.declared.geometry.Geometry.{Geometry}
use Rattle.nv_driver.specs.declared.geometry_field.GeometryField.{GeometryField}
use Rattle.nv_driver.specs.declared.geometry_field.GeometryField.TheVariants.{Depth, PageSize}
use Rattle.nv_driver.specs.declared.geometry_field.GeometryField.TheVariants.{Offset, ListOffset}
use Rattle.nv_driver.specs.declared.geometry_field.GeometryField.TheVariants.{Window, Pace}

-- whether a number is from `low` to `high`
unfoldable pub is_between : ℕ → ℕ → ℕ → Bool
is_between low high x = nat_le low x && nat_le x high

-- a multiple of `unit` that is less than the page size
unfoldable pub is_offset : ℕ → ℕ → ℕ → Bool
is_offset unit page_size x = x % unit == 0 && nat_lt x page_size

-- fewer outstanding commands than slots
unfoldable pub is_window : ℕ → ℕ → Bool
is_window depth x = is_between 1 16 x && nat_lt x depth

-- a field, and whether it is within its limits
pub record GeometryRow : Type 0 where
  pub field : GeometryField
  pub keeps : Bool

-- a row of this field and this test
abbrev pub row : GeometryField → Bool → GeometryRow
row field keeps = record { field = field; keeps = keeps }

-- the fields in order
abbrev pub rows_of : Geometry → List GeometryRow
rows_of g =
    row Depth (is_between 2 4096 g.depth)
    ∷ row PageSize (is_page_size g.page_size)
    ∷ row Offset (is_offset 4 g.page_size g.offset)
    ∷ row ListOffset (is_offset 8 g.page_size g.list_offset)
    ∷ row Window (is_window g.depth g.window)
    ∷ row Pace (is_between 1 4096 g.pace)
    ∷ []

-- the first field of the rows that is outside its limits
abbrev pub first_outside : List GeometryRow → Option GeometryField
first_outside [] = None
first_outside (r ∷ rows) = if r.keeps then first_outside rows else Some r.field

-- the first field that is outside its limits
abbrev pub geometry_fault : Geometry → Option GeometryField
geometry_fault g = first_outside (rows_of g)

-- a geometry without a fault, field by field
pub record IsGeometry (g : Geometry) : Type 0 where
  pub depth : IsDepth g.depth
  pub page_size : IsPageSize g.page_size
  pub offset : (g.offset % 4 ≡ 0) × (g.offset < g.page_size)
  pub list_offset : (g.list_offset % 8 ≡ 0) × (g.list_offset < g.page_size)
  pub window : (1 ≤ g.window) × (g.window ≤ 16) × (g.window < g.depth)
  pub pace : (1 ≤ g.pace) × (g.pace ≤ 4096)
