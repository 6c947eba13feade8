use Rattle.nv_bits.proofs.VecMapLaws.{next_listed}
use Rattle.nv_bits.proofs.vec_map.VecMap.next_above.Goals as goal

pub returns-clause-listed : goal.returns-clause-listed
returns-clause-listed g c =
    let s = c.self.inside in
    rw (← c.self.view_is)
    (next_listed s.occupied s.free _ c.self.invariant.0 c.args.n c.next_above.result c.next_above.ensures.least)
