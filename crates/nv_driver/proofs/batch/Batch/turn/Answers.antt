use Rattle.nv_driver.proofs.Words.{ℕ, ◌%◌, ◌*◌, ◌+◌, ◌-◌, ◌<◌, ◌∙◌, ◌≡◌, ◌≤◌, All, AreReceived, AreSendable, Batch}
use Rattle.nv_driver.proofs.Words.{Command, CommandPages, Geometry, IsHeld, IsSendable, IsToldByPace, List, Pages}
use Rattle.nv_driver.proofs.Words.{QueuePairFields, Request, Sent, all_pages, ap, arith, get_or, get_or-map, inl}
use Rattle.nv_driver.proofs.Words.{length, length-map, length-take, limit_of, map, min, place_in, refl, request_of}
use Rattle.nv_driver.proofs.Words.{requests_in, set-get_or, subst, sym}
use Rattle.nv_driver.proofs.PointerLaws.{no_pages}
use Rattle.nv_driver.proofs.OnWayLaws.{can_collect, geometry_is}
use Rattle.nv_driver.proofs.RoundLaws.{answer_buffer, answers_more, awaits, can_give, collects, command_result_with}
use Rattle.nv_driver.proofs.RoundLaws.{count_few, hears, held_at, number_inside, received_on, takes, tells_on}
use Rattle.nv_driver.proofs.RoundLaws.{turns_idly, turns_on}
use Rattle.nv_driver.proofs.batch.Batch.turn.Given.{Over}
use Rattle.nv_driver.proofs.batch.Batch.turn.Goals.{else-self-pace, in-Commands, in-Entry, then-self-pace}
use Rattle.nv_driver.proofs.batch.Batch.turn.Goals as goal

-- there are as many requests as commands
as_many : {n : ℕ} {qs : List Request} (ks : List Command) → map request_of ks ≡ qs → n < length qs → n < length ks
as_many ks are below = omega (arith, below, ap (λ (xs : List Request). length xs) are, length-map ks request_of)

-- request n of the run is that of command n
request_at_command : {n : ℕ} {k : Command} {qs : List Request} (ks : List Command) → map request_of ks ≡ qs
    → k ≡ get_or ks n k → n < length ks → request_of k ≡ get_or qs n (request_of k)
request_at_command {n} {k} ks are here below = ap request_of here
    ∙ sym (get_or-map request_of ks n k (request_of k) below) ∙ ap (λ xs. get_or xs n (request_of k)) are

-- its reply can be read
sendable_at : {n : ℕ} {k : Command} (ks : List Command) → All IsSendable ks → k ≡ get_or ks n k → n < length ks
    → IsSendable k
sendable_at {n} {k} ks all here below = subst IsSendable (sym here) (all n k below)

-- a turn that takes none while a command is waiting finds no free slot
none_free : (most waiting depth done told count : ℕ) → count ≡ min most (min waiting (depth - 1 - (done - told)))
    → count ≡ 0 → 1 ≤ most → 1 ≤ waiting → 2 ≤ depth → (told < done) × (told + depth ≤ done + 1)
none_free most waiting depth done told count is none some waits deep =
    let full : depth - 1 - (done - told) ≡ 0 = no_slot (depth - 1 - (done - told)) (sym none ∙ is) in
    (omega (arith, full, deep), omega (arith, full, deep))
  where
    no_slot : (free : ℕ) → 0 ≡ min most (min waiting free) → free ≡ 0
    no_slot free e = omega arith

-- a command has at least the two pages for a list
at_least : {o : CommandPages} {x : Sent} → IsHeld o x → 2 ≤ o.count
at_least {o} {x} h = omega (arith, ap (λ (xs : List ℕ). length xs) h.pages, length-take o.count o.numbers)

-- the head doorbell is rung once more
told_once : {pace limit old new : ℕ} (times before : ℕ) → old ≡ before + times * pace → new - old ≡ limit → limit ≡ pace
    → 1 ≤ pace → IsToldByPace pace before new
told_once {pace} {limit} {old} {new} times before h e f some =
    let more : new ≡ old + pace = omega arith in (times + 1, grind arith)

pub returns-then-posted-eq0 : goal.returns-then-posted-eq0
returns-then-posted-eq0 g c =
    let u = c.requires.1.1.1.0 in
    let rest = c.requires.1.1.1.1 in
    let e = c.turn-posted.ensures in
    let pace = ap (λ (q : Geometry). q.pace)
    (c.geometry.view_is ∙ c.geometry-geometry.ensures ∙ geometry_is u.on_way) in
    let some = u.begun.geometry.pace in
    let deep = u.begun.laid.deep in
    let none : c.turn-posted.result ≡ 0 = omega arith in
    let count = takes u e.turn e.turned pace e.bus e.len e.page refl rest.1.1.1 rest.1.1.0 refl rest.1.0 refl in
    let free = none_free _ _ _ _ _ _ count none (omega (arith, some))
    (omega (arith, rest.1.0, rest.1.1.0, u.begun.geometry.window.0)) deep.0 in
    record {
      under_way = turns_idly u e.turn e.turned pace e.bus e.len e.page refl rest.1.1.1 rest.1.1.0 refl rest.1.0 refl
          none c.tell.ensures.told c.tell.ensures.written free.0;
      received = received_on c.args.requests _ _ _ _ _ _ _ c.requires.1.1.0 rest.1.0 rest.0;
      near = omega (arith, some);
      count = omega (arith, count, none);
      paced = λ more. absurd (omega arith);
      none = λ _. (free.0, refl);
    }

pub loop-init : goal.loop-init
loop-init g c =
    let u = c.requires.1.1.1.0 in
    let rest = c.requires.1.1.1.1 in
    let e = c.turn-posted.ensures in
    let pace = ap (λ (q : Geometry). q.pace)
    (c.geometry.view_is ∙ c.geometry-geometry.ensures ∙ geometry_is u.on_way) in
    let h = turns_on u e.turn e.turned pace e.bus e.len e.page refl rest.1.1.1 rest.1.1.0 refl rest.1.0 refl
    (omega arith) in
    record {
      under_way = h;
      received = received_on c.args.requests _ _ _ _ _ _ _ c.requires.1.1.0 rest.1.0 rest.0;
      batch = refl;
      collected = omega arith;
      near = rest.1.1.1;
      paced = (0, omega arith);
      count = takes u e.turn e.turned pace e.bus e.len e.page refl rest.1.1.1 rest.1.1.0 refl rest.1.0 refl;
    }

pub next_completion-completion-requires : goal.next_completion-completion-requires
next_completion-completion-requires g c =
    let i = c.loop.invariant in
    can_collect i.under_way.on_way (awaits i.under_way (omega (arith, i.collected, c.loop-test.true)))

pub bounds-answers-number : goal.bounds-answers-number
bounds-answers-number g c =
    let i = c.loop.invariant in
    let more : c.loop.self.collected < c.args.self.now.collected + c.turn-posted.result =
    omega (arith, i.collected, c.loop-test.true) in
    let has = rw c.in-Commands.is at i.received in
    omega (arith, number_inside i.under_way more, has.len)

pub give-requires : goal.give-requires
give-requires g c =
    let i = c.loop.invariant in
    let u = i.under_way in
    let n = c.loop.self.collected in
    let more : n < c.args.self.now.collected + c.turn-posted.result = omega (arith, i.collected, c.loop-test.true) in
    assumption (can_give u more no_pages (ap (λ (q : QueuePairFields). q.pages)
    c.next_completion-completion.ensures.pair))

pub place-place-requires : goal.place-place-requires
place-place-requires g c =
    let i = c.loop.invariant in
    let u = i.under_way in
    let n = c.loop.self.collected in
    let more : n < c.args.self.now.collected + c.turn-posted.result = omega (arith, i.collected, c.loop-test.true) in
    record { few = count_few u more no_pages; list = at_least (held_at u more no_pages) }

pub receive-requires : goal.receive-requires
receive-requires g c =
    let i = c.loop.invariant in
    let u = i.under_way in
    let n = c.loop.self.collected in
    let more : n < c.args.self.now.collected + c.turn-posted.result = omega (arith, i.collected, c.loop-test.true) in
    let of = c.requires.1.1.0 in
    let limit = limit_of g.begun.run.bus.state g.begun.run.controller in
    let are = ap (requests_in limit) (sym c.in-Commands.is) ∙ of.requests in
    let below : n < length c.in-Commands.commands.now = as_many _ are (number_inside u more) in
    let first = c.next_completion-completion.ensures in
    let same = c.geometry-geometry.ensures ∙ geometry_is c.requires.1.1.1.0.on_way in
    let o = get_or c.loop.host.taken (n % 16) no_pages in
    let its = c.place-place.ensures.place ∙ ap (λ (q : Geometry). place_in q (all_pages o)) same in
    record {
      sends = sendable_at _ (subst AreSendable c.in-Commands.is of.sends) c.index-commands-number.is below;
      buffer = answer_buffer u more first.value (request_at_command _ are c.index-commands-number.is below)
          no_pages its u.page_size;
    }

-- the answers with one more
received_more : (g : Over) (c : goal.Joined-self-pace g)
    → (c.match-requests.host.mem ≡ c.loop.host.mem) × (c.match-requests.host.taken ≡ c.loop.host.taken)
    × AreReceived c.args.requests g.begun.run (c.loop.self.collected + 1) c.match-requests.answers c.loop.host.taken
    (g.M.PagedMemory.bytes c.loop.host.mem) (command_result_with c.next_completion-completion.result.command_specific
    c.next_completion-completion.result.status)
received_more g c =
    let i = c.loop.invariant in
    let u = i.under_way in
    let n = c.loop.self.collected in
    let r = g.begun.run in
    let more : n < c.args.self.now.collected + c.turn-posted.result = omega (arith, i.collected, c.loop-test.true) in
    let of = c.requires.1.1.0 in
    let limit = limit_of r.bus.state r.controller in
    let first = c.next_completion-completion.ensures in
    let same = c.geometry-geometry.ensures ∙ geometry_is c.requires.1.1.1.0.on_way in
    let o = get_or c.loop.host.taken (n % 16) no_pages in
    let places = c.loop.host.taken in
    let bytes = g.M.PagedMemory.bytes c.loop.host.mem in
    let last = command_result_with c.next_completion-completion.result.command_specific
    c.next_completion-completion.result.status in
    elim c.match-requests.branch [
      | in-Commands w ↦
          let are = ap (requests_in limit) (sym w.in-Commands.is) ∙ of.requests in
          let below : n < length w.in-Commands.commands.now = as_many _ are (number_inside u more) in
          let its = w.place-place.ensures.place ∙ ap (λ (q : Geometry). place_in q (all_pages o)) same in
          let has = rw w.in-Commands.is at i.received in
          let all = answers_more u more first.value (request_at_command _ are w.index-commands-number.is below)
          (sendable_at _ (subst AreSendable w.in-Commands.is of.sends) w.index-commands-number.is below) no_pages its
          u.page_size has w.receive.ensures.answer in
          rw (w.host-is, w.answers-is) (
            refl,
            set-get_or places (n % 16) no_pages,
            rw w.in-Commands.is all,
          )
      | in-Entry w ↦
          let are = ap (requests_in limit) (sym w.in-Entry.is) ∙ of.requests in
          let zero : n ≡ 0 = omega (arith, number_inside u more, ap (λ (qs : List Request). length qs) are) in
          rw (w.host-is, w.answers-is) (
            refl,
            set-get_or places (n % 16) no_pages,
            rw w.in-Entry.is (λ some. hears u more first.value zero refl),
          )
    ]

pub loop-preserved : goal.loop-preserved
loop-preserved g c =
    let i = c.loop.invariant in
    let u = i.under_way in
    let n = c.loop.self.collected in
    let more : n < c.args.self.now.collected + c.turn-posted.result =
    omega (arith, i.collected, c.loop-test.true) in
    let first = c.next_completion-completion.ensures in
    let some = u.begun.geometry.pace in
    let limit = c.from-pace.ensures ∙ ap (λ (q : Geometry). q.pace)
    (c.geometry.view_is ∙ c.geometry-geometry.ensures ∙ geometry_is c.requires.1.1.1.0.on_way) in
    let pair = c.next_completion-completion.new.self in
    let here = collects u more first.value no_pages first.pair
    (ap (λ (s : Pages). record pair { pages = s }) c.give.ensures) i.near in
    let got = received_more g c in
    let next = rw (← got.0, ← got.1) at here in
    let received = rw (← got.0, ← got.1) at got.2 in
    elim c.if-self-pace.branch [
      | then-self-pace w ↦
          let t = w.tell-then-self-pace.ensures in
          let due : n + 1 ≡ c.loop.self.told + g.begun.run.geometry.pace =
          omega (arith, w.if-self-pace.true, limit, some) in
          let told = tells_on next t.told t.written (omega (arith, due, some)) (inl (next.collected ∙ due)) in
          rw (w.self-is, w.pair-is, w.bus-is) (record {
            under_way = told;
            received = received;
            batch = ap (λ (b : Batch). record b { collected = n + 1; told = n + 1 }) i.batch;
            collected = omega (arith, i.collected);
            near = omega (arith, some);
            paced = told_once _ _ i.paced.1 w.if-self-pace.true limit (omega (arith, some));
            count = i.count;
          })
      | else-self-pace w ↦
          rw (w.self-is, w.pair-is, w.bus-is) (record {
            under_way = next;
            received = received;
            batch = ap (λ (b : Batch). record b { collected = n + 1 }) i.batch;
            collected = omega (arith, i.collected);
            near = omega (arith, w.if-self-pace.false, limit, i.near);
            paced = i.paced;
            count = i.count;
          })
    ]

pub returns : goal.returns
returns g c =
    let i = c.loop.invariant in
    let all : c.args.self.now.collected + c.turn-posted.result ≡ c.loop.self.collected =
    omega (arith, i.collected, c.loop-test.false, c.loop.auto.counter-end) in
    record {
      under_way = rw all at i.under_way;
      received = i.received;
      near = i.near;
      count = omega (arith, all, i.count);
      paced = λ more. i.paced;
      none = λ same. absurd (omega (arith, all));
    }
