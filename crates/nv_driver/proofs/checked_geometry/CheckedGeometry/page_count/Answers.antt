use Rattle.nv_driver.proofs.Words.{arith, page_size_bounds}
use Rattle.nv_driver.specs.CheckedGeometry.{geometry_of}
use Rattle.nv_driver.proofs.PointerLaws.{few_of_entry}
use Rattle.nv_driver.proofs.checked_geometry.CheckedGeometry.page_count.Goals as goal

pub overflow_add-self-inside : goal.overflow_add-self-inside
overflow_add-self-inside c =
    let is = c.self.invariant in
    omega (arith, is.offset, page_size_bounds c.self.inside.page_size is.page_size, c.requires, c.bytes-len.ensures)

pub returns-clause-most : goal.returns-clause-most
returns-clause-most c =
    let most = few_of_entry (geometry_of c.self.inside) c.bytes-len.result c.self.invariant
    (omega (arith, c.requires, c.bytes-len.ensures)) in omega (arith, most, c.div_ceil.ensures)
