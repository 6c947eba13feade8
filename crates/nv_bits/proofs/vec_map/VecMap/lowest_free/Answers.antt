use Rattle.nv_bits.proofs.VecMapLaws.{lowest_free_is}
use Rattle.nv_bits.proofs.vec_map.VecMap.lowest_free.Goals as goal

pub returns : goal.returns
returns g c =
    let s = c.self.inside in
    let is = c.lowest.ensures in
    rw (← c.self.view_is)
    (lowest_free_is s.occupied s.free _ c.self.invariant.0 0 c.lowest.result is.lowest is.in_range)
