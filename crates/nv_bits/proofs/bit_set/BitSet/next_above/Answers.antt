use Rattle.std.proofs.Common.{◌+◌}
use Rattle.nv_bits.proofs.NumberLaws.{above_next, above_none}
use Rattle.nv_bits.proofs.BitSetLaws.{next_is, no_next}
use Rattle.nv_bits.proofs.bit_set.BitSet.next_above.Goals as goal

pub returns-in_err-k-clause-least : goal.returns-in_err-k-clause-least
returns-in_err-k-clause-least c =
    let s = c.self.inside in
    let at = c.saturating_sub-at.ensures in
    let none = rw c.deref.ensures.value at c.in_err-k.ensures in
    rw (c.from_residual.ensures, ← c.self.view_is)
    (no_next s.first s.count s.len s.lowest_word s.words.items c.self.invariant _ none c.args.n at)

pub returns-in_err-k-clause-listed : goal.returns-in_err-k-clause-listed
returns-in_err-k-clause-listed c =
    let s = c.self.inside in
    let at = c.saturating_sub-at.ensures in
    let none = rw c.deref.ensures.value at c.in_err-k.ensures in
    rw (c.from_residual.ensures, ← c.self.view_is)
    (above_none _ c.args.n
    (no_next s.first s.count s.len s.lowest_word s.words.items c.self.invariant _ none c.args.n at))

pub returns-clause-least : goal.returns-clause-least
returns-clause-least c =
    let s = c.self.inside in
    let at = c.saturating_sub-at.ensures in
    let least = rw c.deref.ensures.value at c.in_ok-k.ensures in
    rw (← c.self.view_is)
    (next_is s.first s.count s.len s.lowest_word s.words.items c.self.invariant _ c.in_ok-k.k least c.args.n at)

pub returns-clause-listed : goal.returns-clause-listed
returns-clause-listed c =
    let s = c.self.inside in
    let at = c.saturating_sub-at.ensures in
    let least = rw c.deref.ensures.value at c.in_ok-k.ensures in
    rw (← c.self.view_is)
    (above_next _ c.args.n (s.first + c.in_ok-k.k)
    (next_is s.first s.count s.len s.lowest_word s.words.items c.self.invariant _ c.in_ok-k.k least c.args.n at))
