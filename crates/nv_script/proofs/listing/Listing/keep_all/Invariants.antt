use Rattle.nv_script.proofs.Words.{ℕ, ◌<◌, ◌≡◌, Answer, IsOk, drop, get_or, listing_of, map, order_of}
use Rattle.nv_script.proofs.listing.Listing.keep_all.Given as goal

-- adding the rest to the listing so far gives the same as adding everything to the first one; the answers before were
-- accepted
abbrev pub invariant-loop-i : goal.invariant-loop-i
invariant-loop-i l = record {
  kept : listing_of l.self (map (order_of l.ctrl) (drop l.i l.commands)) (drop l.i l.answers)
      ≡ listing_of l.initial.self (map (order_of l.ctrl) l.commands) l.answers;
  accepted : (k : ℕ) (d : Answer) → k < l.i → IsOk (get_or l.answers k d);
}
