use Rattle.std.proofs.Common.{◌≡◌, ◌+◌, ◌-◌, ◌∙◌, ap, arith, length, sym}
use Rattle.nv_bits.specs.VecMap.{RangeMap}
use Rattle.nv_bits.proofs.VecMapLaws.{slots-insert, values-insert}
use Rattle.nv_bits.proofs.vec_map.VecMap.insert.Goals as goal

pub invariant_of-self : goal.invariant_of-self
invariant_of-self g c =
    let s = c.self.inside in
    let of = rw (← c.self.view_is) at c.requires in
    let k = c.args.n - s.occupied.first in
    let e : s.occupied.first + k ≡ c.args.n = omega arith in
    let room : length s.slots.items ≡ s.occupied.count = sym s.slots.ok.0 ∙ c.self.invariant.1 in
    let now =
    rw e at (values-insert s.occupied.first s.occupied.count s.slots.items k (omega arith) room c.args.value) in
    rw (c.insert.ensures.members, c.remove.ensures.members, c.first.ensures, now)
    (slots-insert s.occupied s.free _ c.self.invariant.0 c.args.n c.args.value, c.self.invariant.1)

pub returns : goal.returns
returns g c =
    let s = c.self.inside in
    let of = rw (← c.self.view_is) at c.requires in
    let k = c.args.n - s.occupied.first in
    let e : s.occupied.first + k ≡ c.args.n = omega arith in
    let room : length s.slots.items ≡ s.occupied.count = sym s.slots.ok.0 ∙ c.self.invariant.1 in
    let now =
    rw e at (values-insert s.occupied.first s.occupied.count s.slots.items k (omega arith) room c.args.value) in
    rw (← c.self.view_is, c.insert.ensures.members, c.first.ensures)
    (ap (λ m. let made : RangeMap g.row.T.Denot =
    record { first = s.occupied.first; count = s.occupied.count; values = m } in made) now)
