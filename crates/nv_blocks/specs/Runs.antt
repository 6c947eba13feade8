-- Runs: turns of any queues over any namespaces, one after another, and whatever happens between them.
use Rattle.std.specs.Prelude.{◌≡◌, ℕ, ◌==◌, ◌+◌, ◌*◌, ◌<◌, ◌≤◌, if◌then◌else◌, List, [], ◌∷◌, ◌++◌, length}
use Rattle.std.specs.Prelude.{Option, Some, None, replicate, slice_index_or, Result, Ok, Err}
use Rattle.nv_host.specs.Bytes.{bytes_at}
use Rattle.nv_layout.specs.Cqe.{bytes_of_cqe}
use Rattle.nv_layout.specs.declared.cqe.Cqe.{Cqe}
use Rattle.nv_layout.specs.declared.sqe.Sqe.{Sqe}
use Rattle.nv_prp.specs.Place.{written_at}
use Rattle.nv_queue.specs.Numbers.{kept_number, slot_of}
use Rattle.nv_queue.specs.Rings.{FetchNumbers, PostNumbers, posted_one}
use Rattle.nv_queue.specs.Slots.{completion_place}
use Rattle.nv_blocks.specs.Command.{block_count, first_block, opcode_by}
use Rattle.nv_blocks.specs.Effect.{Effect, execution}
use Rattle.nv_blocks.specs.History.{Change, Made, blocks_from, changes_of, host_places, newest}
use Rattle.nv_blocks.specs.Turn.{Scene, after_answer, after_turn, entry_in, scene, taken_in, taken_with}
use Rattle.nv_blocks.specs.declared.answer.CommandResult.{CommandResult}
use Rattle.nv_blocks.specs.declared.command.Action.TheVariants.{Read}
use Rattle.nv_blocks.specs.declared.command.Opcode.TheVariants.{OnBlocks}
use Rattle.nv_blocks.specs.declared.terms.Namespace.{Namespace}
use Rattle.nv_blocks.specs.declared.terms.Terms.{Terms}
use Rattle.nv_blocks.specs.declared.turns.Stop.{Stop}
use Rattle.nv_blocks.specs.declared.turns.Taken.{Taken}

-- the host's memory, the submission and completion queues by their identifiers, and by their NSIDs the data of
-- namespaces and the size of their blocks
pub record World : Type 0 where
  pub page_size : ℕ
  pub bytes : List ℕ
  pub submissions : ℕ → FetchNumbers
  pub completions : ℕ → PostNumbers
  pub stored : ℕ → List ℕ
  pub block_sizes : ℕ → ℕ

-- a turn of the queue that its terms name, which posts to this completion queue; an entry of a queue that a caller
-- answers; a namespace with this block size and number of blocks that was made or formatted; or anything that happens
-- between turns to the host's memory and to the queues
pub data Event : Type 0 where
  Turn : ℕ → Terms → Event
  Answered : ℕ → ℕ → CommandResult → List ℕ → Event
  NewData : ℕ → ℕ → ℕ → Event
  Between : List ℕ → (ℕ → FetchNumbers) → (ℕ → PostNumbers) → Event

-- ---- one event

-- the values of a function, but this one for n
abbrev pub put : {X : Type 0} → (ℕ → X) → ℕ → X → ℕ → X
put f n value k = if n == k then value else f k

-- the data that is lent
abbrev pub lent_of : Option Namespace → (ℕ → List ℕ) → List ℕ
lent_of (Some namespace) stored = stored namespace.nsid
lent_of None stored = []

-- the data of all namespaces after the data that was lent became this
abbrev pub given_back : Option Namespace → (ℕ → List ℕ) → List ℕ → ℕ → List ℕ
given_back (Some namespace) stored new = put stored namespace.nsid new
given_back None stored new = stored

-- what a turn reads and changes
abbrev pub turn_scene : ℕ → Terms → World → Scene
turn_scene cqid terms w =
    scene (w.submissions terms.sqid) (w.completions cqid) (lent_of terms.namespace w.stored) w.bytes

-- what the answer of a caller reads and changes
abbrev pub answer_scene : ℕ → ℕ → World → Scene
answer_scene cqid sqid w = scene (w.submissions sqid) (w.completions cqid) [] w.bytes

-- the world after the queues and the memory became those of a scene
abbrev pub with_queues : ℕ → ℕ → Scene → World → World
with_queues cqid sqid x w = record w {
  bytes = x.bytes;
  submissions = put w.submissions sqid x.fetch;
  completions = put w.completions cqid x.post;
}

-- the world after an event
abbrev pub after : Event → World → World
after (Turn cqid terms) w =
    let x = after_turn terms w.page_size (turn_scene cqid terms w) in
    record (with_queues cqid terms.sqid x w) { stored = given_back terms.namespace w.stored x.stored }
after (Answered cqid sqid command_result written) w =
    with_queues cqid sqid (after_answer sqid w.page_size command_result written (answer_scene cqid sqid w)) w
after (NewData nsid size blocks) w = record w {
  stored = put w.stored nsid (replicate (blocks * size) 0);
  block_sizes = put w.block_sizes nsid size;
}
after (Between bytes submissions completions) w =
    record w { bytes = bytes; submissions = submissions; completions = completions }

-- data is lent with the size of its blocks
abbrev pub IsLent : Option Namespace → (ℕ → ℕ) → Type 0
IsLent (Some namespace) block_sizes = namespace.block_size ≡ block_sizes namespace.nsid
IsLent None block_sizes = Unit {0}

-- an event that may happen: a turn is lent data with the size of its blocks, and new blocks have a byte or more
abbrev pub MayHappen : Event → World → Type 0
MayHappen (Turn cqid terms) w = IsLent terms.namespace w.block_sizes
MayHappen (Answered cqid sqid command_result written) w = Unit {0}
MayHappen (NewData nsid size blocks) w = 0 < size
MayHappen (Between bytes submissions completions) w = Unit {0}

-- the changes of blocks that an entry makes, if one is taken
abbrev pub changes_next : Result Sqe Stop → Terms → World → List Change
changes_next (Ok e) terms w = changes_of terms w.page_size (lent_of terms.namespace w.stored) w.bytes e
changes_next (Err stop) terms w = []

-- the changes of blocks that an event makes
abbrev pub changes_in : Event → World → List Change
changes_in (Turn cqid terms) w = changes_next (entry_in (turn_scene cqid terms w)) terms w
changes_in (Answered cqid sqid command_result written) w = []
changes_in (NewData nsid size blocks) w = Made nsid size ∷ []
changes_in (Between bytes submissions completions) w = []

-- ---- events one after another

-- the world after events
abbrev pub world_after : List Event → World → World
world_after [] w = w
world_after (event ∷ events) w = world_after events (after event w)

-- these events may happen one after another
abbrev pub MayAllHappen : List Event → World → Type 0
MayAllHappen [] w = Unit {0}
MayAllHappen (event ∷ events) w = MayHappen event w × MayAllHappen events (after event w)

-- the changes that they make after these older ones
abbrev pub history_from : List Change → List Event → World → List Change
history_from older [] w = older
history_from older (event ∷ events) w = history_from (changes_in event w ++ older) events (after event w)

-- the changes that they make, the newest first
abbrev pub history : List Event → World → List Change
history events w = history_from [] events w

-- ---- what reads give

-- each block of each namespace is what the newest of these changes left
abbrev pub HoldsNewest : List Change → World → Type 0
HoldsNewest changes w =
    (n b : ℕ) → (b + 1) * w.block_sizes n ≤ length (w.stored n)
    → bytes_at (w.stored n) (b * w.block_sizes n) (w.block_sizes n) ≡ newest changes n b

-- a read that succeeds sends, for each block that it names, what the newest of these changes left
abbrev pub ReadsNewest : List Change → World → Type 0
ReadsNewest changes w =
    (terms : Terms) (namespace : Namespace) (e : Sqe) (effect : Effect)
    → terms.namespace ≡ Some namespace → namespace.block_size ≡ w.block_sizes namespace.nsid
    → opcode_by e.opcode ≡ Ok (OnBlocks Read)
    → execution terms w.page_size (w.stored namespace.nsid) w.bytes e ≡ Ok effect
    → effect.bytes ≡ written_at w.bytes
    (host_places w.page_size w.bytes e (block_count e * namespace.block_size))
    (blocks_from (newest changes namespace.nsid) (first_block e) (block_count e))

-- before the first event no namespace has data
abbrev pub HasNoData : World → Type 0
HasNoData w = (n : ℕ) → w.stored n ≡ []

-- after all events that may happen, each block is what was last written to it, or zeros if it was made, formatted or
-- deallocated since, and this is what a read gives
abbrev pub EveryReadGivesTheNewest : Type 0
EveryReadGivesTheNewest =
    (events : List Event) (w : World) → HasNoData w → MayAllHappen events w
    → HoldsNewest (history events w) (world_after events w) × ReadsNewest (history events w) (world_after events w)

-- ---- what is completed

-- an entry that was taken, if one was
abbrev pub as_list : Result Taken Stop → List Taken
as_list (Ok taken) = taken ∷ []
as_list (Err stop) = []

-- the entry of queue q that an event takes, if it takes one, with its completion
abbrev pub taken_from : ℕ → Event → World → List Taken
taken_from q (Turn cqid terms) w =
    if terms.sqid == q then as_list (taken_in terms w.page_size (turn_scene cqid terms w)) else []
taken_from q (Answered cqid sqid command_result written) w =
    if sqid == q then as_list (taken_with sqid w.page_size command_result written (answer_scene cqid sqid w)) else []
taken_from q (NewData nsid size blocks) w = []
taken_from q (Between bytes submissions completions) w = []

-- the entries of queue q that events take, in order, with their completions
abbrev pub completed : ℕ → List Event → World → List Taken
completed q [] w = []
completed q (event ∷ events) w = taken_from q event w ++ completed q events (after event w)

-- what happens between turns takes no entry of queue q, and doesn't move it; its doorbell may be rung
abbrev pub KeepsQueue : ℕ → Event → World → Type 0
KeepsQueue q (Between bytes submissions completions) w =
    ((submissions q).depth ≡ (w.submissions q).depth) × ((submissions q).fetched ≡ (w.submissions q).fetched)
KeepsQueue q event w = Unit {0}

-- the same along events
abbrev pub KeepQueue : ℕ → List Event → World → Type 0
KeepQueue q [] w = Unit {0}
KeepQueue q (event ∷ events) w = KeepsQueue q event w × KeepQueue q events (after event w)

-- the completion of entry k of queue q has the entry's command identifier and the queue's identifier, and reports the
-- slot after the entry's
pub record IsCompletionOf (q depth k : ℕ) (taken : Taken) : Type 0 where
  pub cid : taken.completion.cid ≡ taken.entry.cid
  pub queue : taken.completion.sq_identifier ≡ q
  pub head : taken.completion.sq_head ≡ slot_of depth (k + 1)

-- these are the completions of a queue from its entry number `from` on, each entry once and in order, and those are all
-- entries that were taken
pub record IsInOrder (q depth from : ℕ) (done : List Taken) (last : FetchNumbers) : Type 0 where
  pub all : last.fetched ≡ kept_number depth (from + length done)
  pub each : (k : ℕ) (other : Taken) → k < length done
      → IsCompletionOf q depth (from + k) (slice_index_or done k other)

-- after all events, each entry that was taken from a queue since it was new has one completion, in the queue's order
abbrev pub EveryQueueIsInOrder : Type 0
EveryQueueIsInOrder =
    (events : List Event) (w : World) (q : ℕ) → (w.submissions q).fetched ≡ 0
    → KeepQueue q events w
    → IsInOrder q (w.submissions q).depth 0 (completed q events w) ((world_after events w).submissions q)

-- the next slot of a completion queue then holds this completion, and the queue is past that slot
pub record IsPosted (old new : World) (cqid : ℕ) (completion : Cqe) : Type 0 where
  pub slot : let ring = old.completions cqid in
      bytes_at new.bytes (completion_place ring.base ring.depth ring.posted) 16 ≡ bytes_of_cqe completion
  pub one : new.completions cqid ≡ posted_one (old.completions cqid)

-- the completion of each entry that is taken is posted
abbrev pub EveryCompletionIsPosted : Type 0
EveryCompletionIsPosted =
    (w : World) (cqid sqid : ℕ) (terms : Terms) (command_result : CommandResult) (written : List ℕ) (taken : Taken)
    → (taken_in terms w.page_size (turn_scene cqid terms w) ≡ Ok taken
    → IsPosted w (after (Turn cqid terms) w) cqid taken.completion)
    × (taken_with sqid w.page_size command_result written (answer_scene cqid sqid w) ≡ Ok taken
    → IsPosted w (after (Answered cqid sqid command_result written) w) cqid taken.completion)
