use Rattle.std.proofs.Common.{◌≡◌, ◌+◌, ◌-◌, ◌∙◌, None, arith, sym, get_or}
use Rattle.std.proofs.lemmas.Bool.{OnTrue_at}
use Rattle.std.proofs.lemmas.List.{get_or_read_under}
use Rattle.nv_bits.proofs.NumberLaws.{get_at}
use Rattle.nv_bits.proofs.vec_map.VecMap.get.Goals as goal

pub returns-clause-value : goal.returns-clause-value
returns-clause-value g c =
    let s = c.self.inside in
    let of = rw (← c.self.view_is) at (OnTrue_at c.if-not-contains.false c.contains.ensures.in_range) in
    let k = c.args.n - s.occupied.first in
    let e : s.occupied.first + k ≡ c.args.n = omega arith in
    let value = rw e at (get_at (λ j. get_or s.slots.items j None) s.occupied.first s.occupied.count k (omega arith)) in
    let read =
    get_or_read_under s.slots.items k _ c.index.result.now None (rw c.first.ensures at c.index.ensures)
    (omega arith) s.slots.ok.0 in
    rw (← c.self.view_is) (read ∙ sym value)
