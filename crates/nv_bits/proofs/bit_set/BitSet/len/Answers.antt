use Rattle.nv_bits.proofs.BitSetLaws.{len_in_range}
use Rattle.nv_bits.proofs.bit_set.BitSet.len.Goals as goal

pub returns-clause-within : goal.returns-clause-within
returns-clause-within c =
    let s = c.self.inside in
    rw (← c.self.view_is) (len_in_range s.first s.count s.len s.lowest_word s.words.items c.self.invariant)
