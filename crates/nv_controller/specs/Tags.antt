-- What taking entries does, with the phase tags in error logs: an entry of a log has the tag of the
-- completion of the command that was refused, in the log itself and in what is sent of it.
use Rattle.std.specs.Prelude.{◌≡◌, ℕ, zero, suc, Bool, true, false, List, Option, None, Some, Result, Ok, Err}
use Rattle.nv_layout.specs.declared.sqe.Sqe.{Sqe}
use Rattle.nv_prp.specs.Place.{written_at}
use Rattle.nv_queue.specs.Numbers.{phase_of}
use Rattle.nv_queue.specs.Rings.{fetched_one, posted_one}
use Rattle.nv_queue.specs.Slots.{with_completion}
use Rattle.nv_command.specs.Refusal.{refusal_by}
use Rattle.nv_command.specs.Reply.{data_of}
use Rattle.nv_command.specs.declared.command.Command.{Command}
use Rattle.nv_command.specs.declared.refusal.Refusal.{Refusal}
use Rattle.nv_command.specs.declared.status_code.StatusCode.{StatusCode}
use Rattle.nv_register.specs.declared.readiness.Readiness.{Readiness}
use Rattle.nv_register.specs.declared.readiness.Readiness.TheVariants.{Off, Failed, Ready}
use Rattle.nv_model.specs.Meaning.{refusal_of, reply_of}
use Rattle.nv_model.specs.State.{State}
use Rattle.nv_model.specs.Step.{with_command}
use Rattle.nv_model.specs.declared.origin.Origin.{Origin}
use Rattle.nv_subsystem.specs.Tagged.{booked, settled, untagged}
use Rattle.nv_bus.specs.Bus.{bank_at}
use Rattle.nv_bus.specs.Call.{Call}
use Rattle.nv_bus.specs.Entry.{Scene, call_in, completion_in, entry_in, scene}
use Rattle.nv_bus.specs.Turn.{Site, ready_bank, site}
use Rattle.nv_controller.specs.Machine.{MachineValue}

-- ---- the subsystem

-- the command identifier of an entry, and the phase tag of its completion
abbrev pub origin_of : Sqe → Bool → Origin
origin_of e phase = record { cid = e.cid; phase = phase }

-- the subsystem after an entry whose completion has this phase tag
abbrev pub settled_unless : Result Call StatusCode → State → ℕ → Sqe → Bool → State
settled_unless (Err code) s c e phase =
    with_command (booked s c e.nsid (origin_of e phase) (refusal_by code)) c
settled_unless (Ok call) s c e phase =
    settled s c call.command (origin_of e phase) (refusal_of s c call.command)

-- the subsystem after the next entry, whose completion has the phase tag of its number
abbrev pub settled_next : ℕ → Scene → State
settled_next c x =
    let ring = x.rings.completion in
    settled_unless (call_in c x) x.state c (entry_in x) (phase_of ring.depth ring.posted)

-- ---- the memory

-- the bytes with the data of a reply at its places, if the command isn't refused
abbrev pub answered_with : Option Refusal → State → ℕ → Command → List ℕ → List ℕ → List ℕ
answered_with None s c k places bytes = written_at bytes places (data_of k (reply_of s c k))
answered_with (Some refusal) s c k places bytes = bytes

-- the bytes with the data of the answer to a call; a refusal before the command leaves them unchanged
abbrev pub answered_unless : Result Call StatusCode → State → ℕ → List ℕ → List ℕ
answered_unless (Err code) s c bytes = bytes
answered_unless (Ok call) s c bytes =
    answered_with (refusal_of s c call.command) s c call.command call.places bytes

-- ---- both

-- a scene as a bus shows it
abbrev pub untagged_scene : Scene → Scene
untagged_scene x = record x { state = untagged x.state }

-- what controller c leaves after the next entry
unfoldable pub next_scene : ℕ → Scene → Scene
next_scene c x = record {
  state = settled_next c x;
  rings = record x.rings {
    submission = fetched_one x.rings.submission;
    completion = posted_one x.rings.completion;
  };
  bytes = with_completion (answered_unless (call_in c x) x.state c x.bytes) x.rings.completion
      (completion_in c (untagged_scene x));
}

-- what it leaves after this number of entries
abbrev pub scenes_after : ℕ → ℕ → Scene → Scene
scenes_after zero c x = x
scenes_after (suc k) c x = next_scene c (scenes_after k c x)

-- a turn that took this number of entries, depending on whether the controller is ready
abbrev pub TaggedBy : Readiness → ℕ → ℕ → Site → Site → Type 0
TaggedBy Off c count old new = new ≡ old
TaggedBy Failed c count old new = new ≡ old
TaggedBy (Ready rings true) c count old new = new ≡ old
TaggedBy (Ready rings false) c count old new =
    let last = scenes_after count c (scene old.state rings old.bytes) in
    (fatal : Bool) × (new ≡ site last.state (ready_bank old.bank last.rings fatal) last.bytes)

-- a turn of controller c that took this number of entries
abbrev pub TaggedTurn : ℕ → ℕ → MachineValue → List ℕ → MachineValue → List ℕ → Type 0
TaggedTurn c count m bytes m' bytes' =
    TaggedBy (bank_at m.banks c).readiness c count (site m.state (bank_at m.banks c) bytes)
    (site m'.state (bank_at m'.banks c) bytes')

-- the same, for any greatest number of entries
abbrev pub Turns : MachineValue → List ℕ → ℕ → ℕ → ℕ → MachineValue → List ℕ → Type 0
Turns m bytes c most count m' bytes' = TaggedTurn c count m bytes m' bytes'
