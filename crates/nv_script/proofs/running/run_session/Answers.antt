use Rattle.nv_script.proofs.Words.{[], ◌++◌, ◌∙◌, Err, Ok, arith, length-take-le, nat_tests, refl, take}
use Rattle.nv_script.proofs.RunLaws.{cut_in_piece, finished, read_first, read_more, stands_first}
use Rattle.nv_script.proofs.running.run_session.Goals as goal

pub returns-in-Ok-clause-runs : goal.returns-in-Ok-clause-runs
returns-in-Ok-clause-runs g c =
    let some = c.in-Some.ensures in
    let inv = c.loop-call.invariant in
    let run = inv.run in
    finished _ _ _ _ _ _ _ run.0 c.read.new.buf c.in-Some.count run.1 inv.calls c.loop-call-test.true some.bytes.0
    some.count some.call (Ok c.in-Ok.status) c.if-count-eq0.true some.bytes.1 some.failure some.end
    c.if-call-reads.false (c.in-Ok.ensures.left _ run.0 _ _ _ _ run.2 run.3) c.in-Ok.ensures.failure

pub returns-in-Err-clause-runs : goal.returns-in-Err-clause-runs
returns-in-Err-clause-runs g c =
    let some = c.in-Some.ensures in
    let inv = c.loop-call.invariant in
    let run = inv.run in
    finished _ _ _ _ _ _ _ run.0 c.read.new.buf c.in-Some.count run.1 inv.calls c.loop-call-test.true some.bytes.0
    some.count some.call (Err c.in-Err.cut) c.if-count-eq0.true some.bytes.1 some.failure some.end
    c.if-call-reads.false (c.in-Err.ensures.left _ run.0 _ _ _ _ run.2 run.3) c.in-Err.ensures.failure

pub returns-in-Err-feed-clause-runs : goal.returns-in-Err-feed-clause-runs
returns-in-Err-feed-clause-runs g c =
    let some = c.in-Some.ensures in
    let inv = c.loop-call.invariant in
    let run = inv.run in
    cut_in_piece _ _ _ _ _ _ _ run.0 c.read.new.buf c.in-Some.count run.1 inv.calls c.loop-call-test.true some.bytes.0
    some.count some.call c.in-Err-feed.cut c.feed.new.line c.feed.new.session some.bound (c.read.auto.buf ∙ inv.room)
    some.last (c.in-Err-feed.ensures.left _ run.0 _ _ _ _ run.2 run.3) c.in-Err-feed.ensures.failure

pub loop-call-preserved : goal.loop-call-preserved
loop-call-preserved g c =
    let some = c.in-Some.ensures in
    let inv = c.loop-call.invariant in
    let run = inv.run in
    let fed = c.in_default-feed.ensures in
    let more = fed.left _ run.0 _ _ _ _ run.2 run.3 in
    let taken = length-take-le c.in-Some.count c.read.new.buf some.bound in
    record {
      not_failed = some.failure;
      not_ended = grind (arith, nat_tests, some.end, c.if-count-eq0.false);
      calls = omega (arith, some.call, inv.calls);
      few = omega (arith, some.count, some.bound, c.read.auto.buf, inv.room, inv.few);
      room = c.read.auto.buf ∙ inv.room;
      numbered = omega (arith, fed.number, inv.numbered, some.count, taken);
      out_ready = fed.failure.0;
      messages_ready = fed.failure.1;
      linked = c.feed.ensures.linked;
      run = (
        run.0 ++ take c.in-Some.count c.read.new.buf,
        read_more _ _ _ run.0 c.read.new.buf c.in-Some.count run.1 some.bytes.0 some.bound some.count,
        more.0,
        more.1,
      );
    }

pub loop-call-init : goal.loop-call-init
loop-call-init g c =
    let first = c.requires.first in
    let fresh = c.requires.fresh_script in
    record {
      not_failed = fresh.not_failed;
      not_ended = fresh.not_ended;
      calls = fresh.no_call;
      few = omega (arith, fresh.no_byte);
      room = refl;
      numbered = omega (arith, first.number);
      out_ready = c.requires.fresh_out;
      messages_ready = c.requires.fresh_messages;
      linked = c.requires.linked;
      run = (
        [],
        read_first _ fresh.no_byte,
        c.new-line.ensures,
        stands_first _ _ _ refl refl refl (refl, refl) first.next first.number first.status,
      );
    }
