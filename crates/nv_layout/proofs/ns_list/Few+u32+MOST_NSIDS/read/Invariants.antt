use Rattle.std.proofs.Common.{◌≡◌, ◌≢◌, ℕ, ◌*◌, ◌<◌, get_or, length}
use Rattle.nv_layout.specs.Parts.{number_at}
use Rattle.nv_layout.proofs.ns_list.Few+u32+MOST_NSIDS.read.Given as goal

-- the list has the numbers read so far, none of them 0
abbrev pub invariant-loop-i : goal.invariant-loop-i
invariant-loop-i l = record {
  size : length l.self ≡ l.i;
  read : (k : ℕ) → k < l.i → get_or l.self k 0 ≡ number_at (4 * k) 4 l.bytes;
  full : (k : ℕ) → k < l.i → get_or l.self k 0 ≢ 0;
}
