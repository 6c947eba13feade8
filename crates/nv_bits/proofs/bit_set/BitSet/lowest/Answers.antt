use Rattle.std.proofs.Common.{refl}
use Rattle.nv_bits.proofs.BitSetLaws.{lowest_is, none_is}
use Rattle.nv_bits.proofs.bit_set.BitSet.lowest.Goals as goal

pub returns-in_err-k-clause-lowest : goal.returns-in_err-k-clause-lowest
returns-in_err-k-clause-lowest c =
    let s = c.self.inside in
    let none = rw c.deref.ensures.value at c.in_err-k.ensures in
    rw (c.from_residual.ensures, ← c.self.view_is)
    (none_is s.first s.count s.len s.lowest_word s.words.items c.self.invariant _ none refl)

pub returns-clause-lowest : goal.returns-clause-lowest
returns-clause-lowest c =
    let s = c.self.inside in
    let least = rw c.deref.ensures.value at c.in_ok-k.ensures in
    rw (← c.self.view_is)
    (lowest_is s.first s.count s.len s.lowest_word s.words.items c.self.invariant _ c.in_ok-k.k least refl)
