-- What requests leave, one after another.
use Rattle.std.proofs.Common.{◌≡◌, ◌∙◌, ◌++◌, ℕ, ◌<◌, ◌≤◌, List, ap, arith, false, length, refl, subst, sym, take, true}
use Rattle.std.proofs.Math.Seq.{take-append_seam}
use Rattle.nv_layout.specs.declared.cqe.Status.{Status}
use Rattle.nv_layout.specs.declared.sqe.Sqe.{Sqe}
use Rattle.nv_model.specs.Step.{reset}
use Rattle.nv_bus.specs.Bus.{BusValue}
use Rattle.nv_bus.specs.Entry.{command_result_of}
use Rattle.nv_bus.specs.declared.command_result.CommandResult.{CommandResult}
use Rattle.nv_driver.specs.Alone.{IsReceived, asked_in, entry_step}
use Rattle.nv_driver.specs.Driver.{after_command, after_reset as driver_reset, pair_at}
use Rattle.nv_driver.specs.Settled.{DriverValue}
use Rattle.nv_driver.proofs.LinkedLaws.{next_cid_is, cids_after, cids_reset}
use Rattle.nv_serve.specs.Answer.{Answer, bare}
use Rattle.nv_serve.specs.Serving.{IsAnswerByKind, IsAnswerIf, IsBare, IsReturned, after_entry}
use Rattle.nv_serve.specs.Serving.{after_if, after_kind, after_reset, has_controller, point, returned}
use Rattle.nv_serve.specs.Handling.{Calls, DoesKind, kind_done}
use Rattle.nv_serve.specs.declared.answer.AnswerHeader.{AnswerHeader}
use Rattle.nv_serve.specs.declared.answer.Outcome.{Outcome}
use Rattle.nv_serve.specs.declared.answer.Outcome.TheVariants.{NoController}
use Rattle.nv_serve.specs.declared.header.Header.{Header}
use Rattle.nv_serve.specs.declared.header.Kind.{Kind}
use Rattle.nv_serve.specs.declared.header.Kind.TheVariants.{Unknown}
use Rattle.nv_serve.specs.inner.Answer.{answer}
use Rattle.nv_serve.specs.inner.Handling.{IsHandled}
use Rattle.nv_serve.specs.inner.Serving.{point_of}
use Rattle.nv_driver.specs.inner.Linked.{next_cids_of}
use Rattle.std.proofs.lemmas.List.{length-map}

-- an entry that the driver sent leaves the point after that entry
pub sent_on : (b b' : BusValue) (d : DriverValue) {d' : DriverValue} (c : ℕ) (e : Sqe) (bytes : List ℕ)
    → c < length d.pairs
    → b'.state ≡ (entry_step b.state c e bytes (pair_at d.pairs c).next_cid).state → d' ≡ after_command d c
    → point_of b' d' ≡ after_entry (point_of b d) c e bytes
sent_on b b' d {d'} c e bytes below state driver =
    let reached = state ∙ ap (λ n. (entry_step b.state c e bytes n).state) (next_cid_is d c below) in
    let next = cids_after d d' c below driver in
    λ i. point (reached i) (next i)

-- a reset by the driver leaves the point after that reset
pub reset_on : (b b' : BusValue) (d : DriverValue) {d' : DriverValue} (c : ℕ) → b'.state ≡ reset b.state c
    → d' ≡ driver_reset d c → point_of b' d' ≡ after_reset (point_of b d) c
reset_on b b' d {d'} c state driver =
    let next = cids_reset d d' c driver in λ i. point (state i) (next i)

-- what the driver returned for an entry is the completion and the data of its step
pub returned_by : (b : BusValue) (d : DriverValue) (c : ℕ) (e : Sqe) (bytes : List ℕ)
    {command_result : CommandResult} {out : List ℕ}
    {n : ℕ} → c < length d.pairs
    → command_result ≡ command_result_of (entry_step b.state c e bytes (pair_at d.pairs c).next_cid).answer
    → IsReceived (asked_in b.state c e bytes) (entry_step b.state c e bytes (pair_at d.pairs c).next_cid).answer out
    → length out ≡ n → IsReturned (point_of b d) c e bytes n command_result out
returned_by b d c e bytes {out = out} below answer received full =
    let at = next_cid_is d c below in
    record {
      command_result_is = answer ∙ ap (λ n. command_result_of (entry_step b.state c e bytes n).answer) at;
      received =
          subst (λ n. IsReceived (asked_in b.state c e bytes) (entry_step b.state c e bytes n).answer out) at received;
      room = full;
    }

-- it is at the front of a buffer
pub front_is : {a : AnswerHeader} {out : List ℕ} (rest : List ℕ) {dword0 n : ℕ} {status : Status}
    → a ≡ returned dword0 status n → length out ≡ n → take a.length (out ++ rest) ≡ out
front_is {out = out} rest is full = ap (λ (h : AnswerHeader). take h.length (out ++ rest)) is
    ∙ ap (λ n. take n (out ++ rest)) (sym full) ∙ take-append_seam out rest

-- a bare header has no data behind it
pub bare_is : {o : Outcome} {a : AnswerHeader} (received : List ℕ) → a ≡ bare o
    → IsBare (answer a (take a.length received)) (bare o)
bare_is received is = (is, ap (λ (a : AnswerHeader). take a.length received) is)

module _ {B : Type 0} (k : Calls B) (d : DriverValue) (h : Header) (bytes : List ℕ) (a : Answer) (old : B) where
  -- what a header says was done and answered if its controller exists and this was done and answered by its kind
  pub handled_by : {kind : Kind} (d' : DriverValue) (new : B) → h.controller < length d.pairs → h.kind ≡ kind
      → IsAnswerByKind kind (point_of (k.meaning old) d) h bytes a
      → point_of (k.meaning new) d' ≡ after_kind kind (point_of (k.meaning old) d) h bytes
      → DoesKind k kind d h bytes a old d' new → IsHandled k h bytes a d old d' new
  handled_by {kind} d' new below is said reached done =
      let p = point_of (k.meaning old) d in
      let within : h.controller < length (next_cids_of d) = rw (length-map d.pairs _) below in
      let there : has_controller p h ≡ true = grind arith in
      let does : kind_done d h ≡ h.kind = grind arith in
      record {
        answer = subst (λ x. IsAnswerIf x p h bytes a) (sym there)
            (subst (λ x. IsAnswerByKind x p h bytes a) (sym is) said);
        reached = subst (λ x. point_of (k.meaning new) d' ≡ after_if x p h bytes) (sym there)
            (subst (λ x. point_of (k.meaning new) d' ≡ after_kind x p h bytes) (sym is) reached);
        steps = subst (λ x. DoesKind k x d h bytes a old d' new) (sym (does ∙ is)) done;
      }

  -- if its controller doesn't exist, nothing may be done, and the answer says so
  pub not_handled : length d.pairs ≤ h.controller → IsBare a (bare NoController) → IsHandled k h bytes a d old d old
  not_handled above said =
      let p = point_of (k.meaning old) d in
      let past : length (next_cids_of d) ≤ h.controller = rw (length-map d.pairs _) above in
      let none : has_controller p h ≡ false = grind arith in
      let does : kind_done d h ≡ Unknown = grind arith in
      record {
        answer = subst (λ x. IsAnswerIf x p h bytes a) (sym none) said;
        reached = subst (λ x. p ≡ after_if x p h bytes) (sym none) refl;
        steps = subst (λ x. DoesKind k x d h bytes a old d old) (sym does) (refl, refl);
      }
