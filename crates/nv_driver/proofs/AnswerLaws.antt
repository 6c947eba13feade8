-- Answers: that they are sound, how they are read back from a completion and its data, and how they stay.
use Rattle.nv_driver.proofs.Words.{ℕ, ◌<◌, ◌^◌, ◌∙◌, ◌≡◌, Answer, Asked, Command, Cqe, CqeFits, Delivers, Err}
use Rattle.nv_driver.proofs.Words.{FitsRecord, GoesBy, Holds, IsAnswered, IsReadable, IsReplyTo, IsWellFormed, List}
use Rattle.nv_driver.proofs.Words.{None, Ok, Option, Sent, Setting, Some, State, Status, Transfer, World, answer_to, ap}
use Rattle.nv_driver.proofs.Words.{arith, asked_step, bytes_read, completion_at, completion_with, data_of, dword0_of}
use Rattle.nv_driver.proofs.Words.{dword0_tagged, false, is_success, length, limit_of, lit<, nat_tests, places}
use Rattle.nv_driver.proofs.Words.{posted_as, read_at, received_as, refl, refused, refused_limit, replies_travel}
use Rattle.nv_driver.proofs.Words.{reply_in, slot, step_after, step_by, step_limit, subst, sym, tagged, take}
use Rattle.nv_driver.proofs.Words.{with_refusal, without_phases}
use Rattle.nv_layout.specs.Status.{StatusFits}
use Rattle.nv_command.proofs.RefusalLaws.{is_refusal-refusal_by}
use Rattle.nv_command.specs.Refusal.{IsRefusal, refusal_by}
use Rattle.nv_command.specs.declared.refusal.Refusal.{Refusal}
use Rattle.nv_model.specs.Meaning.{refusal_of}
use Rattle.nv_model.proofs.ChangedAtLaws.{length-changed_at}
use Rattle.nv_model.proofs.ReplyLaws.{reply_fits}
use Rattle.nv_model.proofs.StepLaws.{refusal_fits, refused_keeps, step_controllers, step_keeps}
use Rattle.nv_command.specs.Received.{received}
use Rattle.nv_command.specs.declared.reply.Reply.{Reply}
use Rattle.nv_driver.proofs.DataLaws.{received_same}
use Rattle.nv_command.specs.declared.reply.Reply.TheVariants as reply

-- ---- the answer to what is asked for is sound, and the subsystem stays well formed

-- a reply that its command can have and its record holds, or a status that is no success
abbrev pub IsAnswerTo : Asked → Answer → Type 0
IsAnswerTo (Ok k) (Ok r) = IsReplyTo k r × FitsRecord r
IsAnswerTo (Err code) (Ok r) = ⊥
IsAnswerTo asked (Err status) = StatusFits status × (is_success status ≡ false)

-- a status that isn't type 0 and code 0 is no success
no_success : (status : Status) → ((status.sct ≡ 0) × (status.sc ≡ 0) → ⊥) → is_success status ≡ false
no_success status fails = grind (arith, nat_tests, fails)

-- the answer of a step, refused or not, is one to its command
answer_by : (o : Option Refusal) (s : State) (c : ℕ) (k : Command) (cid : ℕ) → IsWellFormed s
    → ((r : Refusal) → o ≡ Some r → IsRefusal r)
    → IsAnswerTo (Ok k) (step_by o s c k cid).answer
answer_by None s c k cid w fits = let f = reply_fits s c k w in (f.is_reply, f.fits)
answer_by (Some r) s c k cid w fits = let f = fits r refl in (f.status, no_success r.status f.fails)

-- the answer to whatever was asked for is one to it
pub answer_sound : (asked : Asked) (s : State) (c nsid cid : ℕ) → IsWellFormed s
    → IsAnswerTo asked (asked_step asked s c nsid cid).answer
answer_sound (Ok k) s c nsid cid w = answer_by (refusal_of s c k) s c k cid w (refusal_fits s c k)
answer_sound (Err code) s c nsid cid w =
    let f = is_refusal-refusal_by code in (f.status, no_success (refusal_by code).status f.fails)

-- whatever was asked for leaves a well-formed subsystem well formed
pub asked_keeps : (asked : Asked) (moves : Transfer) (s : State) (c nsid cid : ℕ) → GoesBy asked moves → nsid < 2 ^ 32
    → cid < 2 ^ 16 → IsWellFormed s → IsWellFormed (asked_step asked s c nsid cid).state
asked_keeps (Ok k) moves s c nsid cid goes a b w = step_keeps s c k cid goes.1 b w
asked_keeps (Err code) moves s c nsid cid goes a b w =
    refused_keeps s c nsid cid (refusal_by code) a b (is_refusal-refusal_by code) w

-- whatever was asked for adds or removes no controller
pub asked_controllers : (asked : Asked) (s : State) (c nsid cid : ℕ)
    → length (asked_step asked s c nsid cid).state.controllers ≡ length s.controllers
asked_controllers (Ok k) s c nsid cid = step_controllers s c k cid
asked_controllers (Err code) s c nsid cid =
    length-changed_at _ (refused s c nsid cid (refusal_by code)).controllers c
    ∙ length-changed_at (with_refusal nsid cid (refusal_by code)) s.controllers c

-- the greatest length of the data of a command doesn't change
pub asked_limit : (asked : Asked) (s : State) (c nsid cid d : ℕ)
    → limit_of (asked_step asked s c nsid cid).state d ≡ limit_of s d
asked_limit (Ok k) s c nsid cid d = step_limit s c k cid d
asked_limit (Err code) s c nsid cid d = refused_limit s c nsid cid d (refusal_by code)

-- ---- completions

-- dword 0 of a reply that fits its record has 32 bits
dword0_fits : (r : Reply) → FitsRecord r → dword0_of r < 2 ^ 32
dword0_fits (reply.Number n) fits = fits
dword0_fits r fits = lit< tt

-- the completion with such an answer fits its bits
pub completion_fits : (asked : Asked) (cid head : ℕ) (a : Answer) → cid < 2 ^ 16 → head < 2 ^ 16
    → IsAnswerTo asked a → CqeFits (completion_with cid head a)
completion_fits (Ok k) cid head (Ok r) low below is = omega (arith, dword0_fits r is.1)
completion_fits (Err code) cid head (Ok r) low below is = absurd is
completion_fits asked cid head (Err status) low below is = omega (arith, is.0)

-- ---- what its completion and its data say

-- an answer is read back from its completion and its delivered data
reads_back : (asked : Asked) (bytes : List ℕ) (depth n cid head : ℕ) (a : Answer) → IsReadable asked
    → IsAnswerTo asked a → Delivers asked a bytes
    → answer_to asked (posted_as depth n (completion_with cid head a)) bytes ≡ received_as asked a
reads_back (Ok k) bytes depth n cid head (Ok reply) sends is delivered =
    let r = delivered.0 in
    let same : without_phases r ≡ reply = delivered.1 in
    let with_tags = tagged k r reply same is in
    let back = (replies_travel k r with_tags.0 with_tags.1 sends).reply in
    rw delivered.2 (ap Ok (ap (λ (q : Reply). reply_in k (dword0_of q) (data_of k r)) (sym same)
    ∙ ap (λ d. reply_in k d (data_of k r)) (dword0_tagged r) ∙ back ∙ ap (received k) same))
reads_back (Ok k) bytes depth n cid head (Err status) sends is delivered = rw (is.1) refl
reads_back (Err code) bytes depth n cid head (Ok reply) sends is delivered = absurd is
reads_back (Err code) bytes depth n cid head (Err status) sends is delivered = refl

-- the completion and the delivered data of a request hold its answer
pub answered : (page_size : ℕ) (x : Sent) (mem : List ℕ) (c : Cqe) (depth n cid head : ℕ) (a : Answer)
    → c ≡ posted_as depth n (completion_with cid head a) → IsAnswerTo x.request.asked a
    → Delivers x.request.asked a (bytes_read page_size x mem) → IsAnswered page_size x mem c a
answered page_size x mem c depth n cid head a here is delivered = record {
  dword0 = ap (λ (q : Cqe). q.command_specific) here;
  status = ap (λ (q : Cqe). q.status) here;
  bytes = delivered;
  reads = λ can. ap (λ q. answer_to x.request.asked q (bytes_read page_size x mem)) here
      ∙ reads_back x.request.asked (bytes_read page_size x mem) depth n cid head a can is delivered;
}

-- ---- answers that are held while the memory and the schedule change

-- an answer that is held stays so if its completion, its data and the requests up to it don't change
pub holds_on : (t : Setting) (s : State) (w v : World) (n : ℕ) (x : Sent)
    → completion_at v.mem t.cq (slot t n) ≡ completion_at w.mem t.cq (slot t n)
    → read_at v.mem (places t.page_size x) ≡ read_at w.mem (places t.page_size x)
    → take n v.sent ≡ take n w.sent
    → Holds t s w n x → Holds t s v n x
holds_on t s w v n x completion bytes before h =
    let answer = h.answer in
    let came : bytes_read t.page_size x v.mem ≡ bytes_read t.page_size x w.mem =
    received_same x.request.transfer w.mem v.mem (places t.page_size x) bytes in
    record {
      answer = rw before (record {
        dword0 = ap (λ (q : Cqe). q.command_specific) completion ∙ answer.dword0;
        status = ap (λ (q : Cqe). q.status) completion ∙ answer.status;
        bytes = subst (Delivers x.request.asked (step_after t.controller s w.sent n x).answer) (sym came) answer.bytes;
        reads = λ can. ap (λ q. answer_to x.request.asked q (bytes_read t.page_size x v.mem)) completion
            ∙ ap (answer_to x.request.asked (completion_at w.mem t.cq (slot t n))) came ∙ answer.reads can;
      });
      cid = ap (λ (c : Cqe). c.cid) completion ∙ h.cid;
      head = ap (λ (c : Cqe). c.sq_head) completion ∙ h.head;
    }
