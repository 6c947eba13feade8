use Rattle.nv_driver.proofs.Words.{◌<◌, ◌∙◌, ◌≤◌, Batch, IsLeft, Run, after_some, ap, arith, length, limit_of}
use Rattle.nv_driver.proofs.Words.{numbered_of, pair_value, rules, side, state_after_all, subst, sym}
use Rattle.nv_driver.proofs.EndLaws.{all_collected, begins_all, comes_further, ends_all, run_is}
use Rattle.nv_driver.proofs.RoundLaws.{received_on}
use Rattle.nv_driver.proofs.UnderWayLaws.{counted}
use Rattle.nv_driver.proofs.batch.exchange_all.Goals as goal

pub loop-batch-init : goal.loop-batch-init
loop-batch-init g c =
    let asked = c.requires.1.1 in
    let ready = asked.1.0 in
    let can = rw (ap (λ (r : Run). limit_of r.bus.state r.controller) (run_is asked.0)) at asked.1.1.0.can in
    let u = begins_all g.B.Bus.was_written g.B.Ringing.was_rung g.B.Bus.was_turned c.args.bus.now asked.0
    (search rules) ready can in
    record { under_way = u; received = asked.1.1.1; near = omega (arith, u.begun.geometry.pace) }

pub turn-requires : goal.turn-requires
turn-requires g c κs within =
    let i = c.loop-batch.invariant in
    let s = c.send.ensures in
    let collected = ap (λ (b : Batch). b.collected) s.batch in
    let sent = ap (λ (b : Batch). b.sent) s.batch in
    let told = ap (λ (b : Batch). b.told) s.batch in
    let of = c.requires.1.1.1.1.0 in
    let more : c.loop-batch.batch.collected < length g.begun.run.requests =
    omega (arith, c.loop-batch-test.true, counted of (c.len.ensures _)) in
    let got = received_on c.args.requests c.loop-batch.answers c.loop-batch.host.taken c.send.new.host.taken
    (g.M.PagedMemory.bytes c.loop-batch.host.mem) (g.M.PagedMemory.bytes c.send.new.host.mem) c.loop-batch.host.last
    c.send.new.host.last of more i.received in
    (search rules, (search rules, (of, (s.under_way, (rw collected got, (omega arith, (omega arith, omega arith)))))))

pub loop-batch-smaller : goal.loop-batch-smaller
loop-batch-smaller g c =
    let s = c.send.ensures in
    let e = c.turn.ensures in
    let collected = ap (λ (b : Batch). b.collected) s.batch in
    let told = ap (λ (b : Batch). b.told) s.batch in
    let more : c.loop-batch.batch.collected < length g.begun.run.requests =
    omega (arith, c.loop-batch-test.true, counted c.requires.1.1.1.1.0 (c.len.ensures _)) in
    comes_further _ c.loop-batch.batch c.turn.new.self more
    (omega (arith, e.count, collected)) (λ same. let none = e.none (same ∙ sym collected) in
    (omega (arith, none.0, told, collected), none.1 ∙ collected))

pub returns : goal.returns
returns g c =
    let i = c.loop-batch.invariant in
    let is = run_is c.requires.1.1.0 in
    let all : length g.begun.run.requests ≤ c.loop-batch.batch.collected =
    omega (arith, c.loop-batch-test.false, counted c.requires.1.1.1.1.0 (c.len.ensures _)) in
    let end = ends_all g.B.Bus.meaning i.under_way all c.tell.ensures.told c.tell.ensures.written c.tell.ensures.silent
    (c.requires.1.1.1.0.page_size ∙ ap (λ (r : Run). r.geometry.page_size) (sym is)) in
    record {
      received = rw (← (all_collected i.under_way all).1) i.received;
      state = end.state ∙ ap (λ (r : Run). state_after_all r.controller r.bus.state (numbered_of g.begun.run)) is;
      paced = end.paced;
      others = rw is at end.others;
      left = subst (λ (r : Run). IsLeft r.geometry r.controller (length r.bytes) (after_some
          (length g.begun.run.requests) (pair_value r.pair)) (side r.bus r.pair (g.M.PagedMemory.page_len
          c.args.host.now.mem) r.bytes) (side (g.B.Bus.meaning c.tell.new.bus) c.tell.new.self
          (g.M.PagedMemory.page_len c.loop-batch.host.mem) (g.M.PagedMemory.bytes c.loop-batch.host.mem))) is end.left;
    }
