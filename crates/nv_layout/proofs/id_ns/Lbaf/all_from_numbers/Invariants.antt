use Rattle.std.proofs.Common.{◌≡◌, ◌<◌, ℕ, get_or, length}
use Rattle.nv_layout.specs.IdNs.{lbaf_of_number}
use Rattle.nv_layout.proofs.IdentifyLaws.{none}
use Rattle.nv_layout.proofs.id_ns.Lbaf.all_from_numbers.Given as goal

-- the formats of the numbers so far
abbrev pub invariant-loop-i : goal.invariant-loop-i
invariant-loop-i l = record {
  size : length l.lbafs ≡ 16;
  each : (k : ℕ) → k < l.i → get_or l.lbafs k none ≡ lbaf_of_number (get_or l.numbers k 0);
}
