use Rattle.std.proofs.Common.{◌≡◌, ◌<◌, ℕ, get_or, length}
use Rattle.nv_layout.specs.IdNs.{number_of_lbaf}
use Rattle.nv_layout.proofs.IdentifyLaws.{none}
use Rattle.nv_layout.proofs.id_ns.Lbaf.all_numbers.Given as goal

-- the numbers of the formats so far
abbrev pub invariant-loop-i : goal.invariant-loop-i
invariant-loop-i l = record {
  size : length l.numbers ≡ 16;
  each : (k : ℕ) → k < l.i → get_or l.numbers k 0 ≡ number_of_lbaf (get_or l.lbafs k none);
}
