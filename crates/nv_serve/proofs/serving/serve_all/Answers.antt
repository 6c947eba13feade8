use Rattle.std.proofs.Common.{◌∙◌, ◌++◌, [], ◌∷◌, arith, inl, inr, refl, take}
use Rattle.std.proofs.lemmas.List.{length-append}
use Rattle.nv_serve.specs.inner.Answer.{answer}
use Rattle.nv_serve.specs.Header.{sent_length}
use Rattle.nv_serve.specs.inner.Reading.{request}
use Rattle.nv_serve.specs.Served.{IsRest, too_long}
use Rattle.nv_serve.proofs.ServedLaws.{ends_at, ends_plain, nothing, request_few, stands_first, stands_more}
use Rattle.nv_serve.proofs.ServedLaws.{still_open, taken_first, taken_more, taken_part}
use Rattle.nv_serve.proofs.serving.serve_all.Goals as goal

pub loop-init : goal.loop-init
loop-init g c = record {
  ready = record {
    not_failed = c.requires.fresh_source.not_failed;
    not_ended = c.requires.fresh_source.not_ended;
    calls = omega (arith, c.requires.fresh_source.no_call);
  };
  out_ready = c.requires.fresh_out;
  few = omega (arith, c.requires.fresh_source.no_byte);
  sent_long = c.requires.sent_long;
  received_long = c.requires.received_long;
  linked = c.requires.linked;
  room = c.requires.room;
  stands = ([], [], stands_first, taken_first c.requires.fresh_out, refl);
}

pub returns-in-Nothing-clause-served : goal.returns-in-Nothing-clause-served
returns-in-Nothing-clause-served g c =
    let s = c.loop.invariant.stands in
    let t = c.in-Nothing.ensures.taken in
    ends_plain s.2 t.0 (IsRest.none refl refl) (refl, t.1, s.3)

pub returns-in-Short-clause-served : goal.returns-in-Short-clause-served
returns-in-Short-clause-served g c =
    let s = c.loop.invariant.stands in
    let t = c.in-Short.ensures.taken in
    ends_plain s.2 t.3 (IsRest.cut t.1 refl) (t.1, t.2, t.4, s.3)

pub returns-in-Failed-clause-served : goal.returns-in-Failed-clause-served
returns-in-Failed-clause-served g c =
    let s = c.loop.invariant.stands in
    let t = c.in-Failed.ensures.taken in
    ends_plain s.2 t.2 (IsRest.cut t.1 refl) (inl (t.1, t.3), s.3)

pub returns-clause-served : goal.returns-clause-served
returns-clause-served g c =
    let s = c.loop.invariant.stands in
    ends_plain s.2 (nothing _) (IsRest.none refl refl)
    (inr (refl, still_open c.loop.invariant.ready, omega (arith, s.4, c.loop-test.false, c.loop.auto.counter-end)), s.3)

pub returns-then-respond-clause-served : goal.returns-then-respond-clause-served
returns-then-respond-clause-served g c =
    let s = c.loop.invariant.stands in
    let t = c.in-TooLong.ensures.taken in
    let e = c.if-respond.ensures in
    ends_at s.2 (request c.take_request.new.header []) (too_long ∷ []) t.1 (IsRest.long t.0 refl)
    (t.0, still_open t.2, taken_more too_long s.3 (rw c.bare-refusal.ensures at e.text) e.failure)

pub returns-else-respond-clause-served : goal.returns-else-respond-clause-served
returns-else-respond-clause-served g c =
    let s = c.loop.invariant.stands in
    let t = c.in-TooLong.ensures.taken in
    let e = c.if-respond.ensures in
    ends_at s.2 (request c.take_request.new.header []) (too_long ∷ []) t.1 (IsRest.long t.0 refl)
    (inl t.0, still_open t.2, taken_part too_long s.3 (rw c.bare-refusal.ensures at e.text) e.failure)

pub returns-then-not-respond-clause-served : goal.returns-then-not-respond-clause-served
returns-then-not-respond-clause-served g c =
    let s = c.loop.invariant.stands in
    let t = c.in-Request.ensures.taken in
    let a = answer c.in-Ok.answer (take c.in-Ok.answer.length c.handle.new.received) in
    let more = stands_more c.take_request.new.sent a s.2 t c.sent_length-len.ensures.length c.in-Ok.ensures.handled in
    let e = c.if-not-respond.ensures in
    ends_plain more (nothing _) (IsRest.none refl refl)
    (inr refl, still_open t.4, taken_part a s.3 e.text e.failure)

pub loop-preserved : goal.loop-preserved
loop-preserved g c =
    let inv = c.loop.invariant in
    let s = inv.stands in
    let t = c.in-Request.ensures.taken in
    let done = c.in-Ok.ensures in
    let r = request c.take_request.new.header (take (sent_length c.in-Request.header) c.take_request.new.sent) in
    let a = answer c.in-Ok.answer (take c.in-Ok.answer.length c.handle.new.received) in
    let e = c.if-not-respond.ensures in
    record {
      ready = t.4;
      out_ready = e.failure;
      few = omega (arith, inv.few, t.3.given, request_few t.2);
      sent_long = c.in-Request.ensures.long;
      received_long = done.long;
      linked = done.linked;
      room = done.room;
      stands = (
        s.0 ++ r ∷ [],
        s.1 ++ a ∷ [],
        stands_more c.take_request.new.sent a s.2 t c.sent_length-len.ensures.length done.handled,
        taken_more a s.3 e.text e.failure,
        length-append s.0 (r ∷ []) ∙ omega (arith, s.4),
      );
    }
