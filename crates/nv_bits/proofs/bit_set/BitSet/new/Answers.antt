use Rattle.std.proofs.Common.{◌+◌, ◌/◌, ◌≡◌, ◌∙◌, ap, length}
use Rattle.nv_bits.specs.BitSet.{RangeSet}
use Rattle.nv_bits.proofs.WordLaws.{bit_of-zeros}
use Rattle.nv_bits.proofs.BitSetLaws.{are-empty, members-empty}
use Rattle.nv_bits.proofs.bit_set.BitSet.new.Goals as goal

pub invariant_of-result : goal.invariant_of-result
invariant_of-result c =
    let end : c.len.result ≡ length c.in_ok-words.words.items = c.len.ensures ∙ c.in_ok-words.words.ok.0 in
    rw (end, c.in_ok-words.ensures) (are-empty c.args.first c.args.count c.requires)

pub returns : goal.returns
returns c =
    rw (c.in_ok-words.ensures)
    (ap (λ m. let made : RangeSet = record { first = c.args.first; count = c.args.count; members = m } in made)
    (members-empty c.args.first c.args.count _ (λ k _. bit_of-zeros (c.args.count / 64 + 1) k)))
