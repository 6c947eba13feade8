-- The value of a checked geometry, by its fields.
use Rattle.nv_driver.specs.declared.checked_geometry.CheckedGeometry.TheInside.{Inside}
use Rattle.nv_driver.specs.declared.geometry.Geometry.{Geometry}

-- the geometry with the fields of a checked one
abbrev pub geometry_of : Inside → Geometry
geometry_of g = record {
  depth = g.depth;
  page_size = g.page_size;
  offset = g.offset;
  list_offset = g.list_offset;
  window = g.window;
  pace = g.pace;
}
