use Rattle.std.proofs.Common.{◌≡◌, ◌+◌, ◌-◌, ◌∙◌, ap, arith, is_some, length, sym}
use Rattle.nv_bits.proofs.NumberLaws.{remove_absent}
use Rattle.nv_bits.specs.VecMap.{RangeMap}
use Rattle.nv_bits.proofs.VecMapLaws.{slots-remove, values-remove}
use Rattle.nv_bits.proofs.vec_map.VecMap.remove.Goals as goal

pub returns-in_err-value-clause-values : goal.returns-in_err-value-clause-values
returns-in_err-value-clause-values g c =
    let m = c.args.self.now in
    ap (λ v. let made : RangeMap g.row.T.Denot = record { first = m.first; count = m.count; values = v } in made)
    (sym (remove_absent m.values c.args.n (sym (ap is_some c.in_err-value.ensures.value))))

pub invariant_of-self : goal.invariant_of-self
invariant_of-self g c =
    let s = c.self.inside in
    let of = rw (← c.self.view_is) at c.in_ok-value.ensures.in_range in
    let k = c.args.n - s.occupied.first in
    let e : s.occupied.first + k ≡ c.args.n = omega arith in
    let room : length s.slots.items ≡ s.occupied.count = sym s.slots.ok.0 ∙ c.self.invariant.1 in
    let now = rw e at (values-remove s.occupied.first s.occupied.count s.slots.items k (omega arith) room) in
    rw (c.remove.ensures.members, c.insert.ensures.members, c.first.ensures, now)
    (slots-remove s.occupied s.free _ c.self.invariant.0 c.args.n, c.self.invariant.1)

pub returns-clause-values : goal.returns-clause-values
returns-clause-values g c =
    let s = c.self.inside in
    let of = rw (← c.self.view_is) at c.in_ok-value.ensures.in_range in
    let k = c.args.n - s.occupied.first in
    let e : s.occupied.first + k ≡ c.args.n = omega arith in
    let room : length s.slots.items ≡ s.occupied.count = sym s.slots.ok.0 ∙ c.self.invariant.1 in
    let now = rw e at (values-remove s.occupied.first s.occupied.count s.slots.items k (omega arith) room) in
    rw (← c.self.view_is, c.remove.ensures.members, c.first.ensures)
    (ap (λ m. let made : RangeMap g.row.T.Denot =
    record { first = s.occupied.first; count = s.occupied.count; values = m } in made) now)
