use Rattle.std.proofs.Common.{◌≡◌, ℕ, None, get_or, vec_len}
use Rattle.nv_bits.proofs.vec_map.empty_slots.Given as goal

abbrev pub invariant-loop-i : goal.invariant-loop-i
invariant-loop-i g l = (vec_len l.slots ≡ l._i) × ((k : ℕ) → get_or l.slots.items k None ≡ None)
