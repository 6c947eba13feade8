use Rattle.nv_driver.proofs.Words.{ℕ, ◌%◌, ◌+◌, ◌<◌, ◌∙◌, ◌≡◌, ◌≤◌, Batch, CommandPages, Geometry, IsRequest, List}
use Rattle.nv_driver.proofs.Words.{Request, all_pages, ap, arith, bytes_from_host, data_count, get_or, get_or-set_same}
use Rattle.nv_driver.proofs.Words.{get_or_default, length, length_of, limit_of, mod_below, place_in, request_as, set}
use Rattle.nv_driver.proofs.Words.{set-get_or, setting_of, slot, sym}
use Rattle.nv_driver.proofs.PointerLaws.{all_count, data_fits, no_pages, place_of_set}
use Rattle.nv_driver.proofs.OnWayLaws.{geometry_is, has_bank}
use Rattle.nv_driver.proofs.RoundLaws.{rings}
use Rattle.nv_driver.proofs.SubmittingLaws.{submitted_as}
use Rattle.nv_driver.proofs.TurnLaws.{no_command}
use Rattle.nv_driver.proofs.UnderWayLaws.{IsSentIn, counted, free_slot, room_few, set_has, still_inside, submits}
use Rattle.nv_driver.proofs.UnderWayLaws.{tail_after}
use Rattle.nv_driver.proofs.batch.Batch.send.Goals.{After-outgoing-request}
use Rattle.nv_driver.proofs.batch.Batch.send.Given as given
use Rattle.nv_driver.proofs.batch.Batch.send.Goals as goal

pub outgoing-request-requires : goal.outgoing-request-requires
outgoing-request-requires g c =
    omega (arith, c.len.ensures 0, c.min.ensures, c.loop-number-test.true, c.loop-number.auto.number)

-- it is sent as that request
sent_as : (g : given.Over) (c : After-outgoing-request g)
    → let q = get_or g.begun.run.requests c.loop-number.number no_command.request in
    (c.loop-number.number < length g.begun.run.requests)
    × (request_as c.outgoing-request.result q.asked ≡ q)
    × IsRequest (limit_of g.begun.run.bus.state g.begun.run.controller) q
sent_as g c =
    let n = c.loop-number.number in
    let limit = limit_of g.begun.run.bus.state g.begun.run.controller in
    let of = c.requires.1.1.0 in
    let below : n < length g.begun.run.requests =
    omega (arith, counted of (c.len.ensures _), c.min.ensures, c.loop-number-test.true, c.loop-number.auto.number) in (
      below,
      rw (← of.requests) (c.outgoing-request.ensures limit no_command.request),
      of.can n no_command.request below,
    )

-- the window has room for it
has_room : (g : given.Over) (c : After-outgoing-request g)
    → c.loop-number.self.sent < c.loop-number.self.collected + g.begun.run.geometry.window
has_room g c =
    let i = c.loop-number.invariant in
    let window = ap (λ (q : Geometry). q.window)
    (c.geometry.view_is ∙ c.geometry-geometry.ensures ∙ geometry_is c.requires.1.1.1.0.on_way) in
    let sent = ap (λ (b : Batch). b.sent) i.batch in
    let collected = ap (λ (b : Batch). b.collected) i.batch in
    omega (arith, c.min.ensures, c.from.ensures, window, sent, collected, c.loop-number-test.true)

pub page_count-count-requires : goal.page_count-count-requires
page_count-count-requires g c =
    let one = sent_as g c in
    omega (arith, ap (λ (q : Request). length_of q.transfer) one.1, room_few _ one.2.room)

pub take-requires : goal.take-requires
take-requires g c =
    let i = c.loop-number.invariant in
    let of = c.requires.1.1.0 in
    let past = (goal.at.take-requires g c).After-outgoing-request in
    let one = sent_as g past in
    let same = c.geometry-geometry.ensures ∙ geometry_is c.requires.1.1.1.0.on_way in
    let sent = ap (λ (b : Batch). b.sent) i.batch in
    let few : length_of c.outgoing-request.result.transfer ≤ of.most =
    let brief = of.brief c.loop-number.number no_command.request one.0 in
    omega (arith, ap (λ (q : Request). length_of q.transfer) one.1, brief) in
    let size = ap (λ (q : Geometry). data_count q (length_of c.outgoing-request.result.transfer) + 2) same in
    let all = (data_fits g.begun.run.geometry (length_of c.outgoing-request.result.transfer) of.most
    i.under_way.begun.geometry few).1 in
    let pages = set_has i.under_way of (has_room g past) (omega (arith, sent, one.0)) in
    let count = c.page_count-count.ensures in
    record { few = count.most; enough = omega (arith, count.pages, size, all, pages) }

-- the pages that were taken are in their slot
in_slot : (places : List CommandPages) (n : ℕ) (o e : CommandPages) → length places ≡ 16
    → get_or (set places (n % 16) o) (n % 16) e ≡ o
in_slot places n o e room = get_or-set_same places (n % 16) o e (omega (arith, room, mod_below n 16 (omega arith)))

pub place-place-requires : goal.place-place-requires
place-place-requires g c =
    let e = c.take.ensures in
    rw (in_slot c.loop-number.host.taken c.loop-number.number c.take.new.self no_pages
    c.loop-number.invariant.under_way.room) (record {
      few = omega (arith, e.count, c.page_count-count.ensures.most);
      list = omega (arith, e.count, c.page_count-count.ensures.pages);
    })

pub submit-next-requires : goal.submit-next-requires
submit-next-requires g c =
    let i = c.loop-number.invariant in
    let u = i.under_way in
    let past = (goal.at.submit-next-requires g c).After-outgoing-request in
    let one = sent_as g past in
    let same = c.geometry-geometry.ensures ∙ geometry_is c.requires.1.1.1.0.on_way in
    let e = c.take.ensures in
    let o = c.take.new.self in
    let x = c.outgoing-request.result in
    let len = length_of x.transfer in
    let long = all_count o (omega (arith, e.count, e.long, c.page_count-count.ensures.most)) in
    let many : length (all_pages o) ≡ data_count g.begun.run.geometry len + 2 =
    long ∙ e.count ∙ c.page_count-count.ensures.pages ∙ ap (λ (q : Geometry). data_count q len + 2) same in
    let place = place_of_set g.begun.run.geometry c.loop-number.pair.pages (all_pages o)
    (g.M.PagedMemory.bytes c.loop-number.host.mem) (g.M.PagedMemory.page_len c.loop-number.host.mem) len
    u.begun.geometry u.page_size (still_inside u) e.taken.own e.taken.distinct many in
    let slot = free_slot u (has_room g past) in
    record {
      few = omega (arith, ap (λ (q : Request). length_of q.transfer) one.1, room_few _ one.2.room);
      sent = ap (λ (q : Request). length q.sends) one.1 ∙ one.2.sends
          ∙ ap (λ (q : Request). bytes_from_host q.transfer) (sym one.1);
      place = rw (rw (in_slot c.loop-number.host.taken c.loop-number.number o no_pages u.room) at
          c.place-place.ensures.place ∙ ap (λ (q : Geometry). place_in q (all_pages o)) same) place;
      slot = record { next_cid = slot.next_cid; ring = slot.ring; free = slot.free };
    }

pub loop-number-preserved : goal.loop-number-preserved
loop-number-preserved g c =
    let i = c.loop-number.invariant in
    let u = i.under_way in
    let past = (goal.at.loop-number-preserved g c).After-outgoing-request in
    let one = sent_as g past in
    let same = c.geometry-geometry.ensures ∙ geometry_is c.requires.1.1.1.0.on_way in
    let sent = ap (λ (b : Batch). b.sent) i.batch in
    let collected = ap (λ (b : Batch). b.collected) i.batch in
    let told = ap (λ (b : Batch). b.told) i.batch in
    let e = c.take.ensures in
    let o = c.take.new.self in
    let l = c.loop-number.pair in
    let n = c.loop-number.number in
    let q = get_or g.begun.run.requests n no_command.request in
    let at = rw (in_slot c.loop-number.host.taken n o no_pages u.room) at c.place-place.ensures.place
    ∙ ap (λ (p : Geometry). place_in p (all_pages o)) same in
    let next = submitted_as u.page_size at one.1 (c.submit-next.ensures q.asked) in
    let sub : IsSentIn g.begun.run.geometry q o l c.submit-next.new.pair
    (g.M.PagedMemory.bytes c.loop-number.host.mem) (g.M.PagedMemory.bytes c.submit-next.new.mem)
    (g.M.PagedMemory.page_len c.submit-next.new.mem) c.submit-next.result = record {
      many = e.count ∙ c.page_count-count.ensures.pages
          ∙ ap (λ (p : Geometry). data_count p (length_of c.outgoing-request.result.transfer) + 2) same
          ∙ ap (λ (p : Request). data_count g.begun.run.geometry (length_of p.transfer) + 2) one.1;
      long = omega (arith, e.count, e.long, c.page_count-count.ensures.most);
      taken = e.taken;
      lowest = e.lowest;
      one = rw (← e.set) next;
    } in
    let there = set-get_or (set c.loop-number.host.taken (n % 16) o) (n % 16) no_pages in
    record {
      under_way = rw there (submits u (has_room g past) (omega (arith, sent, one.0))
          (rw sent (get_or_default g.begun.run.requests n no_command.request q one.0)) sub sent (sym collected)
          (omega (arith, c.requires.1.1.1.1, sent, collected, told)));
      batch = ap (λ (b : Batch). record b { sent = b.sent + 1 }) i.batch;
      from = omega arith;
      tail = (tail_after u sent next.tail, omega (arith, i.from));
    }

pub ring-requires : goal.ring-requires
ring-requires g c = let u = c.loop-number.invariant.under_way in rw (u.controller) (has_bank u.on_way)

pub returns-in-Some-clause-under_way : goal.returns-in-Some-clause-under_way
returns-in-Some-clause-under_way g c =
    let i = c.loop-number.invariant in
    let w = c.ring.ensures in
    let sent = ap (λ (b : Batch). b.sent) i.batch in
    let collected = ap (λ (b : Batch). b.collected) i.batch in
    let told = ap (λ (b : Batch). b.told) i.batch in
    let some = rw (c.in-Some.is) at i.tail in
    let window = ap (λ (q : Geometry). q.window)
    (c.geometry.view_is ∙ c.geometry-geometry.ensures ∙ geometry_is c.requires.1.1.1.0.on_way) in
    let of = c.requires.1.1.0 in
    let many = counted of (c.len.ensures _) in
    rw (← collected) at (rings i.under_way
    (some.0 ∙ ap (slot (setting_of g.begun.run)) (sym sent)) w.state w.banks w.bus w.written w.rung (sym collected)
    (omega (arith, c.requires.1.1.1.1, collected, told)) (omega (arith, sent, collected, window, many))
    (omega (arith, sent, some.1)))
