use Rattle.std.proofs.Common.{◌∙◌, ap}
use Rattle.std.proofs.lemmas.List.{with_items_is}
use Rattle.nv_bits.specs.VecMap.{RangeMap}
use Rattle.nv_bits.proofs.VecMapLaws.{slots-empty, values-empty}
use Rattle.nv_bits.proofs.vec_map.VecMap.clear.Goals as goal

pub invariant_of-self : goal.invariant_of-self
invariant_of-self g c =
    let s = c.self.inside in
    let is = with_items_is s.slots c.empty.new.slots
    (c.empty.auto.slots ∙ c.deref_mut.ensures.len) in
    let are = c.self.invariant.0 in
    rw (
      is,
      c.clear.ensures,
      c.fill.ensures,
      are.same_first,
      are.same_count,
      values-empty s.occupied.first s.occupied.count c.empty.new.slots c.empty.ensures,
    )
    (slots-empty s.occupied.first s.occupied.count, c.self.invariant.1)

pub returns : goal.returns
returns g c =
    let s = c.self.inside in
    let is = with_items_is s.slots c.empty.new.slots
    (c.empty.auto.slots ∙ c.deref_mut.ensures.len) in
    rw (← c.self.view_is, c.clear.ensures, is)
    (ap (λ m. let made : RangeMap g.row.T.Denot = record {
      first = s.occupied.first;
      count = s.occupied.count;
      values = m;
    } in made)
    (values-empty s.occupied.first s.occupied.count c.empty.new.slots c.empty.ensures))
