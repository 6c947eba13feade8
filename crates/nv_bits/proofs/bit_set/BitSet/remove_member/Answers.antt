use Rattle.std.proofs.Common.{◌≡◌, ◌+◌, ◌-◌, ◌/◌, ◌∙◌, ap, arith, sym, true}
use Rattle.std.proofs.lemmas.Grind.{get_or_default_zero}
use Rattle.nv_bits.specs.BitSet.{RangeSet}
use Rattle.nv_bits.proofs.NumberLaws.{has_one}
use Rattle.nv_bits.specs.Words.{bit_of}
use Rattle.nv_bits.proofs.WordLaws.{bit_of-and_not}
use Rattle.nv_bits.proofs.BitSetLaws.{are-remove, contains_at, members-remove}
use Rattle.nv_bits.proofs.bit_set.BitSet.remove_member.Goals as goal

pub overflow_sub-self : goal.overflow_sub-self
overflow_sub-self c =
    omega (arith, c.self.invariant.len_is, has_one _ c.args.n (rw (← c.self.view_is) at c.requires.member))

pub invariant_of-self : goal.invariant_of-self
invariant_of-self c =
    let s = c.self.inside in
    let of = rw (← c.self.view_is) at c.requires.in_range in
    let member = rw (← c.self.view_is) at c.requires.member in
    let k = c.args.n - s.first in
    let e : c.args.n ≡ s.first + k = omega arith in
    let bit : bit_of s.words.items k ≡ true = sym (contains_at s.first s.count s.words.items k (omega arith))
    ∙ rw e at member in
    let word = c.index_mut.ensures.value
    ∙ get_or_default_zero s.words.items (k / 64) c.index_mut.result.now (omega arith) in
    let next = rw (c.deref.ensures.value, word) at c.next_word-self-inside.ensures.zeros in
    rw word
    (are-remove s.first s.count s.len s.lowest_word s.words.items c.self.invariant k _ c.next_word-self-inside.result
    (omega arith) bit (bit_of-and_not s.words.items k (omega arith))
    c.next_word-self-inside.ensures.within.0 (omega arith) next)

pub returns : goal.returns
returns c =
    let s = c.self.inside in
    let of = rw (← c.self.view_is) at c.requires.in_range in
    let k = c.args.n - s.first in
    let e : s.first + k ≡ c.args.n = omega arith in
    let word = c.index_mut.ensures.value
    ∙ get_or_default_zero s.words.items (k / 64) c.index_mut.result.now (omega arith) in
    rw (← c.self.view_is, word)
    (ap (λ m. let made : RangeSet = record { first = s.first; count = s.count; members = m } in made)
    (rw e at
    (members-remove s.first s.count s.words.items _ k (omega arith)
    (bit_of-and_not s.words.items k (omega arith)))))
