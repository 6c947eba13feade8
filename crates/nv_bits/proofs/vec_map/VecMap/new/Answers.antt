use Rattle.std.proofs.Common.{ap}
use Rattle.nv_bits.specs.VecMap.{RangeMap}
use Rattle.nv_bits.proofs.VecMapLaws.{slots-empty, values-empty}
use Rattle.nv_bits.proofs.vec_map.VecMap.new.Goals as goal

pub invariant_of-result : goal.invariant_of-result
invariant_of-result g c =
    rw (
      c.in_ok-occupied.ensures,
      c.in_ok-free.ensures,
      values-empty c.args.first c.args.count c.in_ok-slots.slots.items c.in_ok-slots.ensures.none,
    )
    (slots-empty c.args.first c.args.count, c.in_ok-slots.ensures.len)

pub returns : goal.returns
returns g c =
    rw c.in_ok-occupied.ensures
    (ap (λ m. let made : RangeMap g.row.T.Denot = record { first = c.args.first; count = c.args.count; values = m } in
    made)
    (values-empty c.args.first c.args.count c.in_ok-slots.slots.items c.in_ok-slots.ensures.none))
