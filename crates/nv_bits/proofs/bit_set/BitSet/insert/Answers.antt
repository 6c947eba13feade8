use Rattle.std.proofs.Common.{not, ◌≡◌, ◌+◌, ◌-◌, ◌/◌, ◌∙◌, ap, arith, sym}
use Rattle.std.proofs.lemmas.Grind.{get_or_default_zero}
use Rattle.nv_bits.specs.BitSet.{RangeSet}
use Rattle.nv_bits.proofs.WordLaws.{bit_clear, bit_of-or}
use Rattle.nv_bits.proofs.BitSetLaws.{are-insert, contains_at, len_in_range, members-insert}
use Rattle.nv_bits.proofs.bit_set.BitSet.insert.Goals as goal

pub overflow_add-self : goal.overflow_add-self
overflow_add-self c =
    let s = c.self.inside in
    let of = rw (← c.self.view_is) at c.requires in
    let k = c.args.n - s.first in
    let are =
    are-insert s.first s.count s.len s.lowest_word s.words.items c.self.invariant k _ (omega arith)
    (bit_of-or s.words.items k (omega arith)) in
    rw (c.from.ensures, bit_clear s.words.items k _ c.index.ensures (omega arith))
    (omega (arith, len_in_range s.first s.count _ _ _ are))

pub invariant_of-self : goal.invariant_of-self
invariant_of-self c =
    let s = c.self.inside in
    let of = rw (← c.self.view_is) at c.requires in
    let k = c.args.n - s.first in
    let word = c.index_mut.ensures.value
    ∙ get_or_default_zero s.words.items (k / 64) c.index_mut.result.now (omega arith) in
    rw (c.from.ensures, bit_clear s.words.items k _ c.index.ensures (omega arith), c.min-self-inside.ensures, word)
    (are-insert s.first s.count s.len s.lowest_word s.words.items c.self.invariant k _ (omega arith)
    (bit_of-or s.words.items k (omega arith)))

pub returns-clause-members : goal.returns-clause-members
returns-clause-members c =
    let s = c.self.inside in
    let of = rw (← c.self.view_is) at c.requires in
    let k = c.args.n - s.first in
    let e : s.first + k ≡ c.args.n = omega arith in
    let word = c.index_mut.ensures.value
    ∙ get_or_default_zero s.words.items (k / 64) c.index_mut.result.now (omega arith) in
    rw (← c.self.view_is, word)
    (ap (λ m. let made : RangeSet = record { first = s.first; count = s.count; members = m } in made)
    (rw e at
    (members-insert s.first s.count s.words.items _ k (omega arith) (bit_of-or s.words.items k (omega arith)))))

pub returns-clause-is_new : goal.returns-clause-is_new
returns-clause-is_new c =
    let s = c.self.inside in
    let of = rw (← c.self.view_is) at c.requires in
    let k = c.args.n - s.first in
    let e : s.first + k ≡ c.args.n = omega arith in
    rw (← c.self.view_is, bit_clear s.words.items k _ c.index.ensures (omega arith))
    (ap not (sym (rw e at (contains_at s.first s.count s.words.items k (omega arith)))))
