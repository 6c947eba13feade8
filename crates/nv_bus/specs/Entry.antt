-- What happens when a controller takes one entry.
use Rattle.std.specs.Prelude.{◌≡◌, ℕ, false, List, Result, Ok, Err}
use Rattle.nv_layout.specs.declared.cqe.Cqe.{Cqe}
use Rattle.nv_layout.specs.declared.sqe.Sqe.{Sqe}
use Rattle.nv_layout.specs.declared.cqe.Status.{Status}
use Rattle.nv_prp.specs.Place.{written_at}
use Rattle.nv_queue.specs.Numbers.{next, slot_of}
use Rattle.nv_queue.specs.Rings.{fetched_one, posted_one}
use Rattle.nv_queue.specs.Slots.{completion_place, next_submission, put_as, submission_place, with_completion}
use Rattle.nv_command.specs.Logs.{without_phases}
use Rattle.nv_command.specs.Refusal.{refusal_by}
use Rattle.nv_command.specs.Reply.{data_of, dword0_of}
use Rattle.nv_command.specs.StatusCode.{status_of_code}
use Rattle.nv_command.specs.declared.command.Command.{Command}
use Rattle.nv_command.specs.declared.reply.Reply.{Reply}
use Rattle.nv_command.specs.declared.status_code.StatusCode.{StatusCode}
use Rattle.nv_model.specs.State.{State}
use Rattle.nv_model.specs.Step.{Step, refused, step, with_command}
use Rattle.nv_register.specs.declared.rings.Rings.{Rings}
use Rattle.nv_bus.specs.Call.{Call, call_of, command_in}
use Rattle.nv_model.specs.Conditions.{limit_of}
use Rattle.nv_bus.specs.declared.exchange.Exchange.{Exchange}
use Rattle.nv_bus.specs.declared.command_result.CommandResult.{CommandResult}

-- what an entry reads and changes: the subsystem, its controller's rings, and the host's memory
pub record Scene : Type 0 where
  pub state : State
  pub rings : Rings
  pub bytes : List ℕ

-- a scene of these three
abbrev pub scene : State → Rings → List ℕ → Scene
scene state rings bytes = record { state = state; rings = rings; bytes = bytes }

-- the entry that the controller takes next
abbrev pub entry_in : Scene → Sqe
entry_in x = next_submission x.bytes x.rings.submission

-- the command of the entry and the places of its data, or the status of its refusal, for controller c
abbrev pub call_in : ℕ → Scene → Result Call StatusCode
call_in c x = call_of x.rings.page_size (limit_of x.state c) x.bytes (entry_in x)

-- an entry that breaks a rule is refused and logged with its own NSID; for any other, its command's
-- step is done
abbrev pub asked_step : Result Command StatusCode → State → ℕ → (nsid cid : ℕ) → Step
asked_step (Err code) s c nsid cid =
    record {
      answer = Err (status_of_code code);
      state = with_command (refused s c nsid cid (refusal_by code)) c;
    }
asked_step (Ok k) s c nsid cid = step s c k cid

-- the step for a call, or for the status of a refusal, to an entry
abbrev pub step_unless : Result Call StatusCode → State → ℕ → Sqe → Step
step_unless found s c e = asked_step (command_in found) s c e.nsid e.cid

-- the step for the next entry of controller c
abbrev pub next_step : ℕ → Scene → Step
next_step c x = step_unless (call_in c x) x.state c (entry_in x)

-- the data of a reply is written to its places byte after byte, so that the later of two bytes for
-- one place stays, and the entries of an error log have their phase tags; a refusal writes nothing
abbrev pub Moves : Command → List ℕ → Result Reply Status → List ℕ → List ℕ → Type 0
Moves k places (Ok reply) old new =
    (r : Reply) × (without_phases r ≡ reply) × (new ≡ written_at old places (data_of k r))
Moves k places (Err status) old new = new ≡ old

-- the memory after an entry with this answer; an entry that was refused before its command changes nothing
abbrev pub MovesBy : Result Call StatusCode → Result Reply Status → List ℕ → List ℕ → Type 0
MovesBy (Ok call) answer old new = Moves call.command call.places answer old new
MovesBy (Err code) answer old new = new ≡ old

-- the status of a command that succeeded
abbrev pub success : Status
success = record { sc = 0; sct = 0; crd = 0; more = false; dnr = false }

-- the status of an answer
abbrev pub status_in : Result Reply Status → Status
status_in (Ok reply) = success
status_in (Err status) = status

-- dword 0 of an answer; it is 0 for a status
abbrev pub dword0_in : Result Reply Status → ℕ
dword0_in (Ok reply) = dword0_of reply
dword0_in (Err status) = 0

-- what a completion says about an answer
abbrev pub command_result_of : Result Reply Status → CommandResult
command_result_of answer = record { dword0 = dword0_in answer; status = status_in answer }

-- a completion, whose phase tag its number determines
abbrev pub completion_of : ℕ → ℕ → CommandResult → Cqe
completion_of cid sq_head command_result = record {
  command_specific = command_result.dword0;
  sq_head = sq_head;
  sq_identifier = 0;
  cid = cid;
  phase = false;
  status = command_result.status;
}

-- the completion with an answer
abbrev pub completion_with : ℕ → ℕ → Result Reply Status → Cqe
completion_with cid sq_head answer = completion_of cid sq_head (command_result_of answer)

-- the completion of the entry: the submission queue head is past the entry
abbrev pub completion_in : ℕ → Scene → Cqe
completion_in c x =
    let ring = x.rings.submission in
    completion_with (entry_in x).cid (slot_of ring.depth (next ring.depth ring.fetched))
    (next_step c x).answer

-- the entry with its completion as it is posted, and the addresses of their slots
abbrev pub exchange_in : ℕ → Scene → Exchange
exchange_in c x =
    let submission = x.rings.submission in
    let completion = x.rings.completion in
    record {
      entry = entry_in x;
      entry_address = submission_place submission.base submission.depth submission.fetched;
      completion = put_as completion (completion_in c x);
      completion_address = completion_place completion.base completion.depth completion.posted;
    }

-- one entry of controller c: its step, then its data, and then its completion; no other byte of the
-- memory changes
pub record One (c : ℕ) (old new : Scene) : Type 0 where
  pub state : new.state ≡ (next_step c old).state
  pub rings : new.rings ≡ record old.rings {
    submission = fetched_one old.rings.submission;
    completion = posted_one old.rings.completion;
  }
  pub bytes : (moved : List ℕ) × MovesBy (call_in c old) (next_step c old).answer old.bytes moved
      × (new.bytes ≡ with_completion moved old.rings.completion (completion_in c old))
