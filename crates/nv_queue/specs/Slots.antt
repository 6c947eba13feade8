-- The contents of the slots of a ring.
use Rattle.std.specs.Prelude.{◌≡◌, ◌↔◌, ℕ, ◌+◌, ◌*◌, ◌<◌, ◌≤◌, false, List, [], ◌∷◌, ◌++◌, length}
use Rattle.std.specs.Prelude.{slice_index_or, Option, IfSome, IsNone, IsSome}
use Rattle.nv_host.specs.Bytes.{bytes_at, with_bytes}
use Rattle.nv_layout.specs.Cqe.{CqeFits, bytes_of_cqe, cqe_of_bytes}
use Rattle.nv_layout.specs.Sqe.{bytes_of_sqe, sqe_of_bytes}
use Rattle.nv_layout.specs.declared.cqe.Cqe.{Cqe}
use Rattle.nv_layout.specs.declared.sqe.Sqe.{Sqe}
use Rattle.nv_queue.specs.Numbers.{distance, kept_number, next, phase_of, slot_of, tag_below}
use Rattle.nv_queue.specs.Rings.{CollectNumbers, FetchNumbers, PostNumbers, SubmitNumbers}

-- a submission has 64 bytes, a completion 16
abbrev pub submission_place : ℕ → ℕ → ℕ → ℕ
submission_place base depth n = base + 64 * slot_of depth n

-- the first byte of the slot of completion n
abbrev pub completion_place : ℕ → ℕ → ℕ → ℕ
completion_place base depth n = base + 16 * slot_of depth n

-- the submission and the completion in a slot
abbrev pub submission_at : List ℕ → ℕ → ℕ → Sqe
submission_at bytes base slot = sqe_of_bytes (bytes_at bytes (base + 64 * slot) 64)

-- the completion in a slot
abbrev pub completion_at : List ℕ → ℕ → ℕ → Cqe
completion_at bytes base slot = cqe_of_bytes (bytes_at bytes (base + 16 * slot) 16)

-- a completion as it is posted under number n
abbrev pub posted_as : ℕ → ℕ → Cqe → Cqe
posted_as depth n completion = record completion { phase = phase_of depth n }

-- ---- what the calls read and write

-- the submission to take
abbrev pub next_submission : List ℕ → FetchNumbers → Sqe
next_submission bytes ring = submission_at bytes ring.base (slot_of ring.depth ring.fetched)

-- the completion in the awaited slot
abbrev pub awaited_completion : List ℕ → CollectNumbers → Cqe
awaited_completion bytes ring = completion_at bytes ring.base (slot_of ring.depth ring.collected)

-- it has the phase tag of its number
abbrev pub IsAwaitedThere : List ℕ → CollectNumbers → Type 0
IsAwaitedThere bytes ring =
    (awaited_completion bytes ring).phase ≡ phase_of ring.depth ring.collected

-- the next completion as it is posted
abbrev pub put_as : PostNumbers → Cqe → Cqe
put_as ring completion = posted_as ring.depth ring.posted completion

-- the memory after the host wrote a submission to the slot of the next one
abbrev pub with_submission : List ℕ → SubmitNumbers → Sqe → List ℕ
with_submission bytes ring command =
    with_bytes bytes (submission_place ring.base ring.depth ring.submitted) (bytes_of_sqe command)

-- the memory after the device wrote a completion to the slot of the next one, with its phase tag
abbrev pub with_completion : List ℕ → PostNumbers → Cqe → List ℕ
with_completion bytes ring completion =
    with_bytes bytes (completion_place ring.base ring.depth ring.posted)
    (bytes_of_cqe (put_as ring completion))

-- ---- the contents of the slots along a run

-- These completions were posted to the ring, in this order. Each has the phase tag of its number,
-- and is in its slot until the number a depth later is posted. A slot to which nothing was posted
-- has phase tag 0.
pub record HoldsPosted (bytes : List ℕ) (base depth : ℕ) (posted : List Cqe) : Type 0 where
  pub phases : (n : ℕ) (other : Cqe) → n < length posted
      → (slice_index_or posted n other).phase ≡ phase_of depth n
  pub standing : (n : ℕ) (other : Cqe) → n < length posted → length posted ≤ n + depth
      → completion_at bytes base (slot_of depth n) ≡ slice_index_or posted n other
  pub blank : (slot : ℕ) → length posted ≤ slot → slot < depth
      → (completion_at bytes base slot).phase ≡ false

-- if the slots held what was posted, they also hold this completion now
abbrev pub HoldsOneMore : List ℕ → List ℕ → PostNumbers → Cqe → Type 0
HoldsOneMore old new ring completion =
    (posted : List Cqe) → ring.posted ≡ kept_number ring.depth (length posted)
    → ring.base + 16 * ring.depth ≤ length old → CqeFits completion
    → HoldsPosted old ring.base ring.depth posted
    → HoldsPosted new ring.base ring.depth (posted ++ put_as ring completion ∷ [])

-- if completion k is awaited, it is collected if it was posted, and otherwise nothing is
abbrev pub CollectsPosted : List ℕ → CollectNumbers → Option Cqe → Type 0
CollectsPosted bytes ring result =
    (posted : List Cqe) (k : ℕ) → ring.collected ≡ kept_number ring.depth k
    → k ≤ length posted → length posted ≤ k + ring.depth
    → HoldsPosted bytes ring.base ring.depth posted
    → (IsSome result ↔ (k < length posted)) × IfSome result (λ c. c ≡ slice_index_or posted k c)

-- ---- the same for the phase tags alone, by the number of the next completion as the ring keeps it

-- each slot has the phase tag that is due before number n is posted
abbrev pub HoldsTags : List ℕ → ℕ → ℕ → ℕ → Type 0
HoldsTags bytes base depth n =
    (slot : ℕ) → slot < depth → (completion_at bytes base slot).phase ≡ tag_below depth n slot

-- if the slots had the phase tags that are due, they have them after this completion too
abbrev pub KeepsTags : List ℕ → List ℕ → PostNumbers → Cqe → Type 0
KeepsTags old new ring completion =
    ring.base + 16 * ring.depth ≤ length old → CqeFits completion
    → HoldsTags old ring.base ring.depth ring.posted
    → HoldsTags new ring.base ring.depth (next ring.depth ring.posted)

-- if this number is the next to be posted, nothing is collected if and only if it is the awaited
-- one
abbrev pub FindsByTags : List ℕ → CollectNumbers → Option Cqe → Type 0
FindsByTags bytes ring result =
    (posted : ℕ) → posted < 2 * ring.depth → distance ring.depth posted ring.collected < ring.depth
    → HoldsTags bytes ring.base ring.depth posted
    → (IsNone result ↔ (posted ≡ ring.collected))
