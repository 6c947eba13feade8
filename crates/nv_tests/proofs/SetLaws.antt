-- What a set of pages has after a page was given back or taken.
use Rattle.std.proofs.Common.{◌≡◌, ℕ, ◌==◌, ◌||◌, ◌&&◌, arith, not}
use Rattle.std.specs.FinMap as map_of
use Rattle.nv_bits.specs.Numbers.{NumberSet, insert}
use Rattle.nv_bits.proofs.NumberLaws.{contains-insert, contains-remove}
pub use Rattle.std.proofs.lemmas.Bool.Decides.{nat_tests}

-- after p is given back, the set has p and the members that it had
pub given : (s : NumberSet) (p q : ℕ) → map_of.contains_key (insert s p) q ≡ ((q == p) || map_of.contains_key s q)
given s p q = grind (arith, contains-insert s p tt q)

-- after p is taken, the set has the members that it had, without p
pub taken : (s : NumberSet) (p q : ℕ) → map_of.contains_key (map_of.remove s p) q
    ≡ (not (q == p) && map_of.contains_key s q)
taken s p q = grind (arith, contains-remove s p q)
