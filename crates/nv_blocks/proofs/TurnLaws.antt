-- The next entry of a queue.
use Rattle.std.proofs.Common.{◌≡◌, ◌≢◌, ◌==◌, if◌then◌else◌, nat_le, ℕ, ◌+◌, ◌-◌, ◌≤◌, Bool, true, false, List, length}
use Rattle.std.proofs.Common.{Ok, Err, refl}
use Rattle.std.proofs.lemmas.Bool.{and_parts, eqb-false, leb-true}
use Rattle.nv_layout.specs.declared.sqe.Sqe.{Sqe}
use Rattle.nv_queue.specs.Numbers.{distance}
use Rattle.nv_queue.specs.Rings.{FetchNumbers, IsPostFull, PostNumbers}
use Rattle.nv_queue.specs.Slots.{completion_place, next_submission, submission_place}
use Rattle.nv_blocks.specs.Turn.{next_entry, reaches}
use Rattle.nv_blocks.specs.declared.turns.Stop.TheVariants.{Empty, Full, Outside}

-- an entry is waiting, its completion has a free slot, and both slots lie in a memory of this size
pub record IsReady (fetch : FetchNumbers) (post : PostNumbers) (size : ℕ) : Type 0 where
  pub waiting : fetch.fetched ≢ fetch.rung
  pub free : ¬ IsPostFull post
  pub submission : submission_place fetch.base fetch.depth fetch.fetched + 64 ≤ size
  pub completion : completion_place post.base post.depth post.posted + 16 ≤ size

-- a test that three tests decide gave an entry only if none of them stopped it
by_tests : (a b c : Bool) (found e : Sqe)
    → (if a then Err Empty else (if b then Err Full else (if c then Ok found else Err Outside))) ≡ Ok e
    → (a ≡ false) × (b ≡ false) × (c ≡ true)
by_tests true b c found e is = absurd (cc)
by_tests false true c found e is = absurd (cc)
by_tests false false true found e is = (refl, refl, refl)
by_tests false false false found e is = absurd (cc)

-- an entry that is next is ready
pub entry_ready : (fetch : FetchNumbers) (post : PostNumbers) (bytes : List ℕ) (e : Sqe)
    → next_entry fetch post bytes ≡ Ok e → IsReady fetch post (length bytes)
unfolding next_entry
entry_ready fetch post bytes e is =
    let tests = by_tests (fetch.fetched == fetch.rung)
    (distance post.depth post.posted post.told == post.depth - 1)
    (reaches fetch post (length bytes)) (next_submission bytes fetch) e is in
    let both = and_parts
    (nat_le (submission_place fetch.base fetch.depth fetch.fetched + 64) (length bytes))
    (nat_le (completion_place post.base post.depth post.posted + 16) (length bytes)) tests.2 in
    record {
      waiting = eqb-false fetch.fetched fetch.rung tests.0;
      free = eqb-false (distance post.depth post.posted post.told) (post.depth - 1) tests.1;
      submission = leb-true (submission_place fetch.base fetch.depth fetch.fetched + 64) (length bytes) both.0;
      completion = leb-true (completion_place post.base post.depth post.posted + 16) (length bytes) both.1;
    }
