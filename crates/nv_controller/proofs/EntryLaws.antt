-- The answer to an entry, and the effect of taking it.
use Rattle.std.proofs.Common.{◌≡◌, ◌∙◌, ℕ, Bool, ap, ap₂, refl, subst, sym, length, List, Option, Some, None}
use Rattle.std.proofs.Common.{Ok, Err}
use Rattle.nv_layout.specs.declared.cqe.Cqe.{Cqe}
use Rattle.nv_layout.specs.declared.sqe.Sqe.{Sqe}
use Rattle.nv_queue.specs.Numbers.{next, phase_of, slot_of}
use Rattle.nv_queue.specs.Rings.{fetched_one, posted_one}
use Rattle.nv_queue.specs.Slots.{completion_place, submission_place, with_completion}
use Rattle.nv_command.specs.Logs.{without_phases}
use Rattle.nv_model.specs.Answer.{answer_to}
use Rattle.nv_model.specs.Meaning.{refusal_of, reply_of}
use Rattle.nv_model.proofs.ReplyLaws.{reply_fits}
use Rattle.nv_model.specs.Conditions.{limit_of}
use Rattle.nv_bus.proofs.TagLaws.{dword0_tagged, tagged}
use Rattle.nv_controller.specs.Tags.{answered_unless, next_scene, settled_unless, untagged_scene}
use Rattle.nv_controller.proofs.Words.{accepted_answer, call_in, call_of, Command, completion_in, completion_with}
use Rattle.nv_controller.proofs.Words.{entry_in, exchange_in, FitsRecord, IsReplyTo, IsWellFormed, length-map}
use Rattle.nv_controller.proofs.Words.{MovesBy, next_step, One, Refusal, refusal_untagged, Reply, reply_untagged}
use Rattle.nv_controller.proofs.Words.{Scene, State, Step, command_result_of, step, step_by, step_unless, success}
use Rattle.nv_controller.proofs.Words.{untagged}
use Rattle.nv_controller.proofs.Words.{untagged_keeps, untagged_log}

-- ---- answers

-- what follows if a command is answered by a reply: it is that of the step, except for phase tags
pub record IsAnswered (s : State) (c : ℕ) (k : Command) (cid : ℕ) (r : Reply) : Type 0 where
  pub accepted : refusal_of s c k ≡ None
  pub reply : reply_of s c k ≡ r
  pub is_reply : IsReplyTo k r
  pub fits : FitsRecord r
  pub answer : Ok (without_phases r) ≡ (step (untagged s) c k cid).answer
  pub command_result : command_result_of (Ok r) ≡ command_result_of (step (untagged s) c k cid).answer

-- the answer of a well-formed subsystem is as IsAnswered says if it is a reply
pub answered : (s : State) (c : ℕ) (k : Command) (cid : ℕ) (r : Reply) → IsWellFormed s → answer_to s c k ≡ Ok r
    → IsAnswered s c k cid r
answered s c k cid r w is =
    let bare = untagged s in
    let law = reply_fits bare c k (untagged_keeps s w) in
    let own = tagged k (reply_of s c k) (reply_of bare c k) (reply_untagged s c k) (law.is_reply, law.fits) in
    let accepted = accepted_answer (refusal_of s c k) (reply_of s c k) r is in
    let answer : Ok (without_phases (reply_of s c k)) ≡ (step bare c k cid).answer =
    ap Ok (reply_untagged s c k)
    ∙ ap (λ (o : Option Refusal). (step_by o bare c k cid).answer) (sym (refusal_untagged s c k ∙ accepted.0)) in
    subst (IsAnswered s c k cid) accepted.1 (record {
      accepted = accepted.0;
      reply = refl;
      is_reply = own.0;
      fits = own.1;
      answer = answer;
      command_result = ap (λ d. record { dword0 = d; status = success }) (sym (dword0_tagged (reply_of s c k)))
          ∙ ap command_result_of answer;
    })

-- the answer of a step is the status of the refusal if there is one
pub refused_by : (s : State) (c : ℕ) (k : Command) (cid : ℕ) (refusal : Refusal) → refusal_of s c k ≡ Some refusal
    → Err refusal.status ≡ (step (untagged s) c k cid).answer
refused_by s c k cid refusal some =
    ap (λ (o : Option Refusal). (step_by o (untagged s) c k cid).answer) (sym (refusal_untagged s c k ∙ some))

-- ---- controllers

-- what adds or removes no controller without tags adds or removes none with them
pub same_count : (old new after : State) → untagged new ≡ after
    → length after.controllers ≡ length (untagged old).controllers
    → length new.controllers ≡ length old.controllers
same_count old new after is same =
    sym (length-map new.controllers untagged_log)
    ∙ ap (λ (t : State). length t.controllers) is
    ∙ same
    ∙ length-map old.controllers untagged_log

-- ---- what taking one entry did, from its parts

-- an entry and its completion with its phase tag, and their places, are what the controller takes next
pub exchanged : (c : ℕ) (x : Scene) (entry : Sqe) (from to : ℕ) (completion : Cqe) (phase : Bool)
    → entry ≡ entry_in x → completion ≡ completion_in c x
    → (let ring = x.rings.completion in phase ≡ phase_of ring.depth ring.posted)
    → (let ring = x.rings.submission in from ≡ submission_place ring.base ring.depth ring.fetched)
    → (let ring = x.rings.completion in to ≡ completion_place ring.base ring.depth ring.posted)
    → record {
      entry = entry;
      entry_address = from;
      completion = record completion { phase = phase };
      completion_address = to;
    } ≡ exchange_in c x
exchanged c x entry from to completion phase same command_result due at there =
    λ i. record {
      entry = same i;
      entry_address = at i;
      completion = record (command_result i) { phase = due i };
      completion_address = there i;
    }

module _ (c : ℕ) (x : Scene) (entry : Sqe) (size limit head : ℕ) (same : entry ≡ entry_in x)
    (page : size ≡ x.rings.page_size) (most : limit ≡ limit_of (untagged x.state) c)
    (slot : let ring = x.rings.submission in head ≡ slot_of ring.depth (next ring.depth ring.fetched)) where
  -- a completion with the parts that the definitions name is that of the entry
  pub completed : completion_with entry.cid head
      (step_unless (call_of size limit x.bytes entry) (untagged x.state) c entry).answer
      ≡ completion_in c (untagged_scene x)
  completed = λ i. completion_with (same i).cid (slot i)
      (step_unless (call_of (page i) (most i) x.bytes (same i)) (untagged x.state) c (same i)).answer

  -- if its parts did what the definitions say, one entry was taken
  pub taken_one : (new : Scene) (posted : Cqe) (moved : List ℕ) → let call = call_of size limit x.bytes entry in
      let step = step_unless call (untagged x.state) c entry in
      new.state ≡ step.state
      → MovesBy call step.answer x.bytes moved
      → new.rings ≡ record x.rings {
        submission = fetched_one x.rings.submission;
        completion = posted_one x.rings.completion;
      }
      → posted ≡ completion_with entry.cid head step.answer
      → new.bytes ≡ with_completion moved x.rings.completion posted
      → One c (untagged_scene x) new
  taken_one new posted moved state moves rings made bytes =
      let bare = untagged_scene x in
      let call : call_of size limit x.bytes entry ≡ call_in c bare =
      (λ i. call_of (page i) (most i) x.bytes (same i)) in
      let step : step_unless (call_of size limit x.bytes entry) bare.state c entry ≡ next_step c bare =
      ap₂ (λ k e. step_unless k bare.state c e) call same in
      record {
        state = state ∙ ap (λ s. s.state) step;
        rings = rings;
        bytes = (
          moved,
          subst (λ k. MovesBy k (next_step c bare).answer x.bytes moved) call
              (subst (λ (s : Step). MovesBy (call_of size limit x.bytes entry) s.answer x.bytes moved) step moves),
          bytes ∙ ap (with_completion moved x.rings.completion) (made ∙ completed),
        );
      }

  -- the same with phase tags
  pub tagged_one : (new : Scene) (phase : Bool) (posted : Cqe) (moved : List ℕ)
      → let call = call_of size (limit_of x.state c) x.bytes entry in
      (let ring = x.rings.completion in phase ≡ phase_of ring.depth ring.posted)
      → new.state ≡ settled_unless call x.state c entry phase
      → moved ≡ answered_unless call x.state c x.bytes
      → new.rings ≡ record x.rings {
        submission = fetched_one x.rings.submission;
        completion = posted_one x.rings.completion;
      }
      → posted ≡ completion_with entry.cid head
      (step_unless (call_of size limit x.bytes entry) (untagged x.state) c entry).answer
      → new.bytes ≡ with_completion moved x.rings.completion posted
      → new ≡ next_scene c x
  unfolding next_scene
  tagged_one new phase posted moved due state sent rings made bytes =
      let completion = made ∙ completed in
      let all : moved ≡ answered_unless (call_in c x) x.state c x.bytes =
      sent ∙ (λ i. answered_unless (call_of (page i) (limit_of x.state c) x.bytes (same i)) x.state c x.bytes) in
      let left = state
      ∙ (λ i. settled_unless (call_of (page i) (limit_of x.state c) x.bytes (same i)) x.state c (same i) (due i)) in
      λ i. record {
        state = left i;
        rings = rings i;
        bytes = (bytes ∙ (λ j. with_completion (all j) x.rings.completion (completion j))) i;
      }
