-- The contents of the slots of a ring: what no public contract reaches.
use Rattle.std.specs.Prelude.{◌≡◌, ◌≢◌, ℕ, ◌<◌, List}
use Rattle.nv_layout.specs.declared.cqe.Cqe.{Cqe}
use Rattle.nv_layout.specs.declared.sqe.Sqe.{Sqe}
use Rattle.nv_queue.specs.Slots.{submission_at, completion_at}

-- ---- one slot is written, and the others don't change

-- one slot of a submission ring is written, and the others don't change
pub record WritesSubmission (old new : List ℕ) (base depth slot : ℕ) (c : Sqe) : Type 0 where
  pub here : submission_at new base slot ≡ c
  pub others : (s : ℕ) → s < depth → s ≢ slot → submission_at new base s ≡ submission_at old base s

-- one slot of a completion ring is written, and the others don't change
pub record WritesCompletion (old new : List ℕ) (base depth slot : ℕ) (c : Cqe) : Type 0 where
  pub here : completion_at new base slot ≡ c
  pub others : (s : ℕ) → s < depth → s ≢ slot → completion_at new base s ≡ completion_at old base s
