use Rattle.std.proofs.Common.{◌∙◌, ap, sym}
use Rattle.nv_bits.specs.BitSet.{RangeSet}
use Rattle.nv_bits.proofs.NumberLaws.{remove_absent}
use Rattle.nv_bits.proofs.bit_set.BitSet.remove.Goals as goal

pub returns-then-not-contains-clause-members : goal.returns-then-not-contains-clause-members
returns-then-not-contains-clause-members c =
    let set = c.args.self.now in
    let absent = sym c.contains.ensures.value ∙ c.if-not-contains.true in
    ap (λ m. let made : RangeSet = record { first = set.first; count = set.count; members = m } in made)
    (sym (remove_absent set.members c.args.n absent))
