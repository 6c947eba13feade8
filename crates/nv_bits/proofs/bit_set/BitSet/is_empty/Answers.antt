use Rattle.std.proofs.Common.{ap, arith, ◌∙◌}
use Rattle.std.proofs.lemmas.Bool.{eq-eqb, eqb-true}
use Rattle.std.specs.FinMap as map
use Rattle.std.specs.Ordering.{nat_cmp}
use Rattle.nv_bits.proofs.bit_set.BitSet.is_empty.Goals as goal

pub returns : goal.returns
returns c = rw (← c.self.view_is) (
  λ none. map.empty_of_len _ (omega (arith, c.self.invariant.len_is, eqb-true c.self.inside.len 0 none)),
  λ none. eq-eqb c.self.inside.len 0 (c.self.invariant.len_is ∙ ap map.len none ∙ map.len-empty nat_cmp (Unit {0})),
)
