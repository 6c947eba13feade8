use Rattle.std.proofs.Common.{◌+◌, ◌/◌, ◌≡◌, ◌∙◌, ℕ, ap, length, replicate}
use Rattle.nv_bits.specs.BitSet.{RangeSet}
use Rattle.nv_bits.proofs.WordLaws.{bit_of-zeros}
use Rattle.nv_bits.proofs.BitSetLaws.{are-empty, members-empty}
use Rattle.nv_bits.proofs.bit_set.BitSet.clear.Goals as goal

pub invariant_of-self : goal.invariant_of-self
invariant_of-self c =
    let s = c.self.inside in
    let zeros : c.fill.new.self.items ≡ replicate {A = ℕ}
    (s.count / 64 + 1) 0 = c.fill.ensures.items (λ y e. e)
    ∙ ap (λ n. replicate {A = ℕ} n 0) (s.words.ok.0 ∙ c.self.invariant.room) in
    let end : c.len-self-inside.result ≡ length c.fill.new.self.items = c.len-self-inside.ensures
    ∙ c.fill.new.self.ok.0 in
    rw (end, zeros) (are-empty s.first s.count c.self.invariant.in_range)

pub returns : goal.returns
returns c =
    let s = c.self.inside in
    let zeros : c.fill.new.self.items ≡ replicate {A = ℕ}
    (s.count / 64 + 1) 0 = c.fill.ensures.items (λ y e. e)
    ∙ ap (λ n. replicate {A = ℕ} n 0) (s.words.ok.0 ∙ c.self.invariant.room) in
    rw (← c.self.view_is, zeros)
    (ap (λ m. let made : RangeSet = record { first = s.first; count = s.count; members = m } in
    made)
    (members-empty s.first s.count _ (λ k _. bit_of-zeros (s.count / 64 + 1) k)))
