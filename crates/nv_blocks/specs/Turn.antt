-- What happens when one entry of a queue is taken.
use Rattle.std.specs.Prelude.{ℕ, ◌==◌, ◌+◌, ◌-◌, ◌&&◌, false, List, if◌then◌else◌, length, nat_le, Bool}
use Rattle.std.specs.Prelude.{Result, Ok, Err}
use Rattle.nv_layout.specs.declared.cqe.Cqe.{Cqe}
use Rattle.nv_layout.specs.declared.sqe.Sqe.{Sqe}
use Rattle.nv_queue.specs.Numbers.{distance, next, slot_of}
use Rattle.nv_queue.specs.Rings.{FetchNumbers, PostNumbers, fetched_one, posted_one}
use Rattle.nv_queue.specs.Slots.{completion_place, next_submission, put_as, submission_place, with_completion}
use Rattle.nv_blocks.specs.Effect.{Effect, execution, sent}
use Rattle.nv_blocks.specs.Refusal.{status_of_refusal}
use Rattle.nv_blocks.specs.declared.answer.CommandResult.{CommandResult}
use Rattle.nv_blocks.specs.declared.refusal.Refusal.{Refusal}
use Rattle.nv_blocks.specs.declared.terms.Terms.{Terms}
use Rattle.nv_blocks.specs.declared.turns.Stop.{Stop}
use Rattle.nv_blocks.specs.declared.turns.Stop.TheVariants.{Empty, Full, Outside}
use Rattle.nv_blocks.specs.declared.turns.Taken.{Taken}

-- ---- the next entry

-- the slots of the entry and of its completion lie in a memory of this size
abbrev pub reaches : FetchNumbers → PostNumbers → ℕ → Bool
reaches fetch post size =
    nat_le (submission_place fetch.base fetch.depth fetch.fetched + 64) size
    && nat_le (completion_place post.base post.depth post.posted + 16) size

-- the entry that is taken next, or why none is
unfoldable pub next_entry : FetchNumbers → PostNumbers → List ℕ → Result Sqe Stop
next_entry fetch post bytes =
    if fetch.fetched == fetch.rung then Err Empty
    else (if distance post.depth post.posted post.told == post.depth - 1 then Err Full
    else (if reaches fetch post (length bytes) then Ok (next_submission bytes fetch) else Err Outside))

-- ---- the outcome of an entry

-- what its completion says, and a namespace's data and the host's memory before the completion is posted
pub record Outcome : Type 0 where
  pub command_result : CommandResult
  pub stored : List ℕ
  pub bytes : List ℕ

-- what a completion says of success
abbrev pub success : CommandResult
success = record { dword0 = 0; status = record { sc = 0; sct = 0; crd = 0; more = false; dnr = false } }

-- what a completion says of a refusal
abbrev pub command_result_of : Refusal → CommandResult
command_result_of refusal = record { dword0 = 0; status = status_of_refusal refusal }

-- the outcome of an entry that has this effect, or is refused and changes nothing
abbrev pub outcome_by : Result Effect Refusal → List ℕ → List ℕ → Outcome
outcome_by (Ok effect) stored bytes = record { command_result = success; stored = effect.stored; bytes = effect.bytes }
outcome_by (Err refusal) stored bytes =
    record { command_result = command_result_of refusal; stored = stored; bytes = bytes }

-- the outcome of an entry under the terms of a turn
abbrev pub outcome_of : Terms → ℕ → List ℕ → List ℕ → Sqe → Outcome
outcome_of terms page_size stored bytes e =
    outcome_by (execution terms page_size stored bytes e) stored bytes

-- the outcome of an entry that a caller answers, whose data could be sent or not
abbrev pub answered_by : Result (List ℕ) Refusal → CommandResult → List ℕ → List ℕ → Outcome
answered_by (Ok new) command_result stored bytes =
    record { command_result = command_result; stored = stored; bytes = new }
answered_by (Err refusal) command_result stored bytes =
    record { command_result = command_result_of refusal; stored = stored; bytes = bytes }

-- the outcome of an entry that a caller answers with this data
abbrev pub answer_of : ℕ → CommandResult → List ℕ → List ℕ → List ℕ → Sqe → Outcome
answer_of page_size command_result written stored bytes e =
    answered_by (sent page_size e written bytes) command_result stored bytes

-- ---- one turn

-- what a turn reads and changes: both sides of the queues, a namespace's data, and the host's memory
pub record Scene : Type 0 where
  pub fetch : FetchNumbers
  pub post : PostNumbers
  pub stored : List ℕ
  pub bytes : List ℕ

-- a scene of these
abbrev pub scene : FetchNumbers → PostNumbers → List ℕ → List ℕ → Scene
scene fetch post stored bytes = record { fetch = fetch; post = post; stored = stored; bytes = bytes }

-- the completion of an entry, whose phase tag its number determines; the submission queue head is past the entry
abbrev pub completion_for : ℕ → FetchNumbers → Sqe → CommandResult → Cqe
completion_for sqid fetch e command_result = record {
  command_specific = command_result.dword0;
  sq_head = slot_of fetch.depth (next fetch.depth fetch.fetched);
  sq_identifier = sqid;
  cid = e.cid;
  phase = false;
  status = command_result.status;
}

-- the entry with its completion as it is posted
abbrev pub taken_as : ℕ → FetchNumbers → PostNumbers → Sqe → CommandResult → Taken
taken_as sqid fetch post e command_result =
    record { entry = e; completion = put_as post (completion_for sqid fetch e command_result) }

-- the scene after an entry with this outcome: its data is moved, and then its completion is posted
abbrev pub finished : ℕ → Scene → Sqe → Outcome → Scene
finished sqid x e outcome = record {
  fetch = fetched_one x.fetch;
  post = posted_one x.post;
  stored = outcome.stored;
  bytes = with_completion outcome.bytes x.post (completion_for sqid x.fetch e outcome.command_result);
}

-- the scene after the next entry, which has the outcome that it is given; if none is taken, nothing changes
abbrev pub scene_by : Result Sqe Stop → ℕ → (Sqe → Outcome) → Scene → Scene
scene_by (Ok e) sqid outcome x = finished sqid x e (outcome e)
scene_by (Err stop) sqid outcome x = x

-- the entry with its completion, or why none is taken
abbrev pub taken_by : Result Sqe Stop → ℕ → (Sqe → Outcome) → Scene → Result Taken Stop
taken_by (Ok e) sqid outcome x = Ok (taken_as sqid x.fetch x.post e (outcome e).command_result)
taken_by (Err stop) sqid outcome x = Err stop

-- the entry that is next in a scene
abbrev pub entry_in : Scene → Result Sqe Stop
entry_in x = next_entry x.fetch x.post x.bytes

-- the scene after a turn
abbrev pub after_turn : Terms → ℕ → Scene → Scene
after_turn terms page_size x =
    scene_by (entry_in x) terms.sqid (outcome_of terms page_size x.stored x.bytes) x

-- what a turn takes
abbrev pub taken_in : Terms → ℕ → Scene → Result Taken Stop
taken_in terms page_size x =
    taken_by (entry_in x) terms.sqid (outcome_of terms page_size x.stored x.bytes) x

-- the scene after the next entry of a queue was answered by a caller
abbrev pub after_answer : ℕ → ℕ → CommandResult → List ℕ → Scene → Scene
after_answer sqid page_size command_result written x =
    scene_by (entry_in x) sqid (answer_of page_size command_result written x.stored x.bytes) x

-- what a caller answers
abbrev pub taken_with : ℕ → ℕ → CommandResult → List ℕ → Scene → Result Taken Stop
taken_with sqid page_size command_result written x =
    taken_by (entry_in x) sqid (answer_of page_size command_result written x.stored x.bytes) x
