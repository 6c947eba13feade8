use Rattle.std.proofs.Common.{◌≡◌, ◌+◌, ◌-◌, arith, sym}
use Rattle.std.proofs.Math.Bool.{not-not}
use Rattle.std.proofs.lemmas.Bool.{le-ltb}
use Rattle.nv_bits.proofs.WordLaws.{bit_clear}
use Rattle.nv_bits.proofs.BitSetLaws.{contains_at, not_member}
use Rattle.nv_bits.proofs.bit_set.BitSet.contains.Goals as goal

pub returns-then-n-self-clause-value : goal.returns-then-n-self-clause-value
returns-then-n-self-clause-value c =
    let s = c.self.inside in
    rw (← c.self.view_is) (sym (not_member s.first s.count s.words.items c.args.n (λ a b. absurd (omega arith))))

pub returns-then-k-self-clause-value : goal.returns-then-k-self-clause-value
returns-then-k-self-clause-value c =
    let s = c.self.inside in
    let k = c.args.n - s.first in
    let e : s.first + k ≡ c.args.n = omega arith in
    rw (← c.self.view_is, bit_clear s.words.items k _ c.index.ensures (omega (arith, c.self.invariant.room)), not-not)
    (sym (rw e at (contains_at s.first s.count s.words.items k (omega arith))))

pub returns-else-k-self-clause-value : goal.returns-else-k-self-clause-value
returns-else-k-self-clause-value c =
    let s = c.self.inside in
    rw (← c.self.view_is, le-ltb (c.args.n - s.first) s.count c.if-k-self.false)
    (sym (not_member s.first s.count s.words.items c.args.n (λ a b. absurd (omega arith))))
