-- A list of requests while it is executed: doorbells, turns and answers.
use Rattle.nv_driver.proofs.Words.{[], ℕ, ◌%◌, ◌++◌, ◌+◌, ◌-◌, ◌<◌, ◌∙◌, ◌∷◌, ◌≡◌, ◌≢◌, ◌≤◌, All, AllPairs, Answer}
use Rattle.nv_driver.proofs.Words.{AreReceived, AreTaken, Batch, Bell, BusTurn, BusValue, Collect, Command}
use Rattle.nv_driver.proofs.Words.{CommandPages, CommandResult, Cqe, DoesNext, Event, HasAnswers, IsAnswered, IsBuffer}
use Rattle.nv_driver.proofs.Words.{IsBus, IsDue, IsHeard, IsHeld, IsOf, IsOnWay, IsPlaceFor, IsReadable, IsRunOf}
use Rattle.nv_driver.proofs.Words.{IsSendable, IsToReport, IsTold, IsToldInTime, IsUnderWay, LiesInPages, List, Pages}
use Rattle.nv_driver.proofs.Words.{QueuePairFields, Request, RequestPlace, Requests, Run, Sent, Status, TailWrite, Tell}
use Rattle.nv_driver.proofs.Words.{TookNothing, Turn, Write, add-one, all_pages, answer_from, answer_to, answers_to, ap}
use Rattle.nv_driver.proofs.Words.{arith, awaited_completion, bank_at, buffer_places, collected_one, completion_at}
use Rattle.nv_driver.proofs.Words.{drop-cons, false, free_pages, from_cid, get_or, get_or_default, greatest_limit}
use Rattle.nv_driver.proofs.Words.{held_pages, inl, inr, known_to, length, length-append, length-set, length-take}
use Rattle.nv_driver.proofs.Words.{length_of, min, own_pages, pages_of_all, place_in, places as places_of}
use Rattle.nv_driver.proofs.Words.{received_from, refl, request_of, set, setting_of, slice_set, slot, slot_of}
use Rattle.nv_driver.proofs.Words.{state_after_all, step_after, subst, sym, take, take_more, take_more_set, transfer_by}
use Rattle.nv_driver.proofs.Words.{true, way, with_pages, with_register_at, without, world_of}
use Rattle.nv_driver.proofs.PointerLaws.{entry_pages_few, own_is, place_of_set}
use Rattle.nv_driver.proofs.WindowPageLaws.{given_back, gone, taken_first, taken_rest}
use Rattle.nv_driver.proofs.BatchLaws.{answer_at, answers_are, length-answers, state_is}
use Rattle.nv_driver.proofs.UnderWayLaws.{counts, few_of, has_collected, held, is_full, request_is, room_few, world}
use Rattle.nv_driver.proofs.TurnLaws.{no_command}
use Rattle.std.specs.FinMap as map_of
use Rattle.nv_driver.specs.declared.requests.Requests.TheVariants as sends
use Rattle.nv_bus.specs.Turn as T
use Rattle.nv_driver.proofs.OnWayLaws as W

-- the pages of a request can be returned to a set
pub record CanGive (s : Pages) (o : CommandPages) : Type 0 where
  pub few : o.count ≤ 259
  pub own : All (λ p. IsOf s.first s.count p) (all_pages o)
  pub none : All (λ p. map_of.contains_key s.members p ≡ false) (all_pages o)
  pub distinct : AllPairs (λ p q. p ≢ q) (all_pages o)

-- dword 0 and status of a completion
abbrev pub command_result_with : ℕ → Status → CommandResult
command_result_with dword0 status = record { dword0 = dword0; status = status }

-- completions with equal parts tell the same
same_command_result : {a b : ℕ} {s s' : Status} → a ≡ b → s ≡ s' → command_result_with a s ≡ command_result_with b s'
same_command_result e f = cc

-- ---- doorbells and turns

module _ {B : Type 0} {wrote : Write B} {rang : TailWrite B} {turned : BusTurn B} {start on : B} {r : Run}
    {bells turns : ℕ} {b : Batch} {bus : BusValue} {l : QueuePairFields} {now : ℕ} {bytes : List ℕ}
    {places : List CommandPages}
    (u : IsUnderWay wrote rang turned start r bells turns b bus on l now bytes places) where
  -- the requests stay, while other things change
  goes_on : {bells' turns' told' now' : ℕ} {bus' : BusValue} {on' : B} {l' : QueuePairFields} {mem : List ℕ}
      (es : List Event) → l'.pages ≡ l.pages
      → IsOnWay (DoesNext wrote rang turned r) start (way r (record u.course { events = es }) bells' turns' told') bus'
      on' l' now' mem
      → ¬ TookNothing es (world_of (way r (record u.course { events = es }) bells' turns' told') bus' mem)
      → IsUnderWay wrote rang turned start r bells' turns' (record b { told = told' }) bus' on' l' now' mem places
  goes_on es same next awake = record {
    course = record u.course { events = es };
    on_way = next;
    awake = awake;
    can = u.can;
    controller = u.controller;
    has = u.has;
    collected = u.collected;
    left = same ∙ u.left;
    room = u.room;
    slots = u.slots;
  }

  -- the tail doorbell was rung for all requests that were sent
  pub rings : {bus' : BusValue} {on' : B} {value : ℕ} → value ≡ slot (setting_of r) b.sent
      → bus'.state ≡ bus.state
      → bus'.banks ≡ slice_set bus.banks b.ctrl (with_register_at (bank_at bus.banks b.ctrl) 0x1000 value)
      → (IsBus bus → IsBus bus') → wrote on b.ctrl 0x1000 value on' → rang on bytes on'
      → turns ≡ b.collected → IsToldInTime r b
      → b.sent ≡ min (b.collected + r.geometry.window) (length r.requests) → bells < b.sent
      → IsUnderWay wrote rang turned start r b.sent turns b bus' on' l now bytes places
  rings {bus'} {on'} {value} sent state banks lawful its_write its_ring all near full more =
      let its_time : IsDue r u.course.events (world u) Bell = (
        has_collected u all near,
        is_full u full,
        omega (arith, more, u.sent),
      ) in
      let put = sent ∙ ap (slot (setting_of r)) (sym u.sent) in
      let its_call = rw (put, u.controller) at its_write in
      goes_on (Bell ∷ u.course.events) refl (rw u.sent at (W.rings u.on_way {on' = on'} u.controller put state banks
      lawful (its_time, (its_call, its_ring)))) (λ h. h)

  -- the head doorbell was rung for all collected answers
  pub tells_on : {bus' : BusValue} {on' : B} {l' : QueuePairFields} → IsTold b.ctrl l bus l' bus'
      → (l.completion.untold ≡ true
      → wrote on b.ctrl 0x1004 (slot_of l.completion.depth l.completion.collected) on')
      → b.told < b.collected → IsToReport r u.course.events (world u)
      → IsUnderWay wrote rang turned start r bells turns (record b { told = b.collected }) bus' on' l' now bytes places
  tells_on {bus'} {on'} {l'} t its_write some to_report =
      let more : b.told < length u.course.answers = omega (arith, some, u.collected) in
      let its_call = rw (W.head_at u.on_way, u.controller) at (its_write (W.untold_is u.on_way more)) in
      goes_on (Tell ∷ u.course.events) (ap (λ (o : QueuePairFields). o.pages) t.pair)
      (rw u.collected at (W.tells_on u.on_way {on' = on'} u.controller more t ((more, to_report), its_call))) (λ h. h)

  -- the controller had a turn
  module _ {bus' : BusValue} {on' : B} {now' asked most count : ℕ} {mem : List ℕ}
      (turn : T.Turn now b.ctrl asked count bus bytes bus' mem) (its_turn : turned on bytes b.ctrl asked count on' mem)
      (pace : asked ≡ most) (lawful : IsBus bus') (size : length mem ≡ length bytes) (page : now' ≡ now)
      (all : turns ≡ b.collected) (near : IsToldInTime r b)
      (full : b.sent ≡ min (b.collected + r.geometry.window) (length r.requests)) (rung : bells ≡ b.sent)
      (some : b.collected < length r.requests) (its_pace : most ≡ r.geometry.pace) where
    turn_on : IsOnWay (DoesNext wrote rang turned r) start
        (way r (W.more_events u.on_way (Turn most)) bells (turns + count) b.told) bus' on' l now' mem
        × (count ≡ min most (min (bells - turns) (r.pair.submission.depth - 1 - (turns - b.told))))
    turn_on =
        let its_time : IsDue r u.course.events (world u) (Turn most) = (
          has_collected u all near,
          is_full u full,
          rung ∙ sym u.sent,
          omega (arith, some, u.collected),
          its_pace,
          u.awake,
        ) in
        let its_call = rw (pace, u.controller) at its_turn in
        W.turned u.on_way {on' = on'} u.controller pace turn lawful size page (its_time, (count, refl, its_call))

    -- it took as many requests as the counts allow
    pub takes : count ≡ min most (min (bells - turns) (r.pair.submission.depth - 1 - (turns - b.told)))
    takes = turn_on.1

    -- it took some
    pub turns_on : 0 < count → IsUnderWay wrote rang turned start r bells (turns + count) b bus' on' l now' mem places
    turns_on took =
        goes_on (Turn most ∷ u.course.events) refl turn_on.0 (λ none. omega (arith, took, none, all, u.collected))

    -- it took none, and the head doorbell was rung for all collected answers
    pub turns_idly : {bus2 : BusValue} {on2 : B} {l2 : QueuePairFields} → count ≡ 0
        → IsTold b.ctrl l bus' l2 bus2
        → (l.completion.untold ≡ true
        → wrote on' b.ctrl 0x1004 (slot_of l.completion.depth l.completion.collected) on2)
        → b.told < b.collected
        → IsUnderWay wrote rang turned start r bells turns (record b { told = b.collected }) bus2 on2 l2 now' mem places
    turns_idly {bus2} {on2} {l2} none t its_write more_told =
        let same : turns + count ≡ turns = omega (arith, none) in
        let v = rw same at turn_on.0 in
        let more : b.told < length u.course.answers = omega (arith, more_told, u.collected) in
        let its_call = rw (W.head_at v, u.controller) at (its_write (W.untold_is v more)) in
        goes_on (Tell ∷ Turn most ∷ u.course.events) (ap (λ (o : QueuePairFields). o.pages) t.pair) (rw u.collected at
        (W.tells_on v {on' = on2} u.controller more t ((more, inr (inl (u.collected ∙ sym all))), its_call))) (λ h. h)

  -- the state is the one after the requests that turns took
  pub state_on : bus.state
      ≡ state_after_all r.controller r.bus.state (from_cid r.pair.next_cid (take turns r.requests))
  state_on =
      let k = counts u in
      u.keeps.state ∙ state_is r.pair.next_cid r.requests u.course.sent b.sent u.requests r.controller r.bus.state turns
      (omega (arith, k.done, k.rung))

  -- ---- answers

  -- no more answers were collected, and no more requests executed, than requests were sent
  pub no_more : (b.collected ≤ b.sent) × (turns ≤ b.sent)
  no_more = let c = counts u in (omega (arith, c.collected, c.done, c.rung), omega (arith, c.done, c.rung))

  -- the request whose answer is awaited
  abbrev pub next_one : Sent
  next_one = get_or u.course.sent b.collected no_command

  module _ (more : b.collected < turns) where
    -- fewer answers were collected than requests were executed
    pub awaits : length u.course.answers < turns
    awaits = omega (arith, more, u.collected)

    -- the awaited answer belongs to a request of the list
    pub number_inside : b.collected < length r.requests
    number_inside = omega (arith, more, no_more, u.some)

    -- the request whose answer is awaited was sent with its data in its pages
    pub kept_here : LiesInPages r b.collected next_one
    kept_here = u.kept b.collected no_command (omega (arith, no_more, more))

    -- its pages are in its slot
    pub held_at : (p : CommandPages) → IsHeld (get_or places (b.collected % 16) p) next_one
    held_at p = u.slots b.collected p no_command (omega (arith, u.window, u.begun.geometry.window.1))
        (omega (arith, no_more, more))

    -- the pages of the outstanding requests are its own and then those of the others
    held_is : held u ≡ own_pages next_one ++ held_pages (b.collected + 1) u.course.sent
    held_is = ap pages_of_all (drop-cons u.course.sent b.collected no_command (omega (arith, no_more, more, u.sent)))
        ∙ ap (λ n. own_pages next_one ++ held_pages n u.course.sent) (sym (add-one b.collected))

    -- its data and its list lie in its pages
    own_place : IsPlaceFor bytes r.geometry.page_size (place_in r.geometry kept_here.pages)
        (length_of next_one.request.transfer)
    own_place =
        let first = taken_first r.pair.pages (own_pages next_one) _ (subst (AreTaken r.pair.pages) held_is u.taken) in
        place_of_set r.geometry r.pair.pages kept_here.pages bytes r.geometry.page_size
        (length_of next_one.request.transfer) u.begun.geometry refl
        (let laid = u.begun.laid in omega (arith, laid.inside, u.size))
        (subst (All (λ n. IsOf r.pair.pages.first r.pair.pages.count n)) (own_is kept_here) first.own)
        (subst (AllPairs (λ n m. n ≢ m)) (own_is kept_here) first.distinct) kept_here.many

    module _ (e : CommandPages) where
      -- what is in its slot
      abbrev o : CommandPages
      o = get_or places (b.collected % 16) e

      all_is : held u ≡ all_pages o ++ held_pages (b.collected + 1) u.course.sent
      all_is = held_is ∙ ap (λ ps. ps ++ held_pages (b.collected + 1) u.course.sent) (sym (held_at e).pages)

      taken_all : AreTaken r.pair.pages (all_pages o ++ held_pages (b.collected + 1) u.course.sent)
      taken_all = subst (AreTaken r.pair.pages) all_is u.taken

      -- they are few
      pub count_few : o.count ≤ 259
      count_few =
          let pages = few_of u greatest_limit (λ i d h. room_few _ (u.can i d h).room) kept_here
          (omega (arith, no_more, more)) in
          let its = held_at e in
          let most = entry_pages_few r.geometry.page_size u.begun.geometry.page_size in
          omega (arith, pages, most, its.few, ap (λ (ps : List ℕ). length ps) its.pages, length-take o.count o.numbers)

      -- they can be given back
      pub can_give : {s : Pages} → s ≡ l.pages → CanGive s o
      can_give same =
          let first = taken_first r.pair.pages (all_pages o) _ taken_all in
          subst (λ s. CanGive s o) (sym (same ∙ u.left ∙ ap (without r.pair.pages) all_is)) (record {
            few = count_few;
            own = first.own;
            none = λ i d h. gone r.pair.pages (all_pages o) (held_pages (b.collected + 1) u.course.sent) i d h;
            distinct = first.distinct;
          })

      -- once they are given back, the free pages are those that no later request has
      pages_back : with_pages l.pages (all_pages o) ≡ free_pages r (b.collected + 1) u.course.sent
      pages_back = ap (λ s. with_pages s (all_pages o)) (u.left ∙ ap (without r.pair.pages) all_is)
          ∙ given_back r.pair.pages (all_pages o) (held_pages (b.collected + 1) u.course.sent) taken_all

    module _ {p : Cqe} (is : p ≡ awaited_completion bytes l.completion) where
      -- the awaited completion is in its slot
      completion_is : p ≡ completion_at bytes (setting_of r).cq (slot (setting_of r) b.collected)
      completion_is = is ∙ W.completion_is u.on_way awaits
          ∙ ap (λ n. completion_at bytes (setting_of r).cq (slot (setting_of r) n)) u.collected

      -- the awaited completion was collected, and the pages were given back
      pub collects : (e : CommandPages) {l1 l' : QueuePairFields}
          → l1 ≡ record l { submission = known_to l.submission p.sq_head; completion = collected_one l.completion }
          → l' ≡ record l1 { pages = with_pages l1.pages (all_pages (o e)) } → IsToldInTime r b
          → IsUnderWay wrote rang turned start r bells turns (record b { collected = b.collected + 1 }) bus on l' now
          bytes
          places
      collects e first back near =
          let window : b.sent ≤ b.collected + 1 + r.geometry.window = omega (arith, u.window) in
          let all = back
          ∙ ap (λ (x : QueuePairFields). record x { pages = with_pages x.pages (all_pages (o e)) }) first in
          record {
            course = record u.course {
              answers = u.course.answers ++ W.answer_next u.on_way awaits ∷ [];
              events = Collect ∷ u.course.events;
            };
            on_way = W.collects_on u.on_way awaits is all ((awaits, omega (arith, near, u.collected)), refl);
            awake = λ h. h;
            can = u.can;
            controller = u.controller;
            has = record {
              window = window;
              some = u.some;
              sent = u.sent;
              requests = u.requests;
              kept = u.kept;
              own = u.own;
              taken = taken_rest r.pair.pages (all_pages (o e)) _ (taken_all e);
            };
            collected = length-append u.course.answers (W.answer_next u.on_way awaits ∷ [])
                ∙ ap (λ n. n + 1) u.collected;
            left = ap (λ (x : QueuePairFields). x.pages) all ∙ pages_back e;
            room = u.room;
            slots = u.slots;
          }

      -- ---- the answer

      -- the awaited completion and the request's pages hold its answer
      pub answer_here : IsAnswered r.geometry.page_size next_one bytes p
          (step_after r.controller r.bus.state u.course.sent b.collected next_one).answer
      answer_here = subst (λ e. IsAnswered r.geometry.page_size next_one bytes e
          (step_after r.controller r.bus.state u.course.sent b.collected next_one).answer)
          (sym completion_is) (u.keeps.held b.collected no_command (omega (arith, u.collected)) more).answer

      -- what it says and the first request's pages hold the answer to that
      pub hears : b.collected ≡ 0 → {last : CommandResult} → last ≡ command_result_with p.command_specific p.status
          → IsHeard r places bytes last
      hears first {last} is =
          let held = subst (IsAnswered r.geometry.page_size next_one bytes p)
          (ap (λ n. (step_after r.controller r.bus.state u.course.sent n next_one).answer) first) answer_here in
          record {
            one = next_one;
            kept = subst (λ n. LiesInPages r n next_one) first kept_here;
            held = λ e. let slot : b.collected % 16 ≡ 0 = omega (arith, first) in
                subst (λ n. IsHeld (get_or places n e) next_one) slot (held_at e);
            buffer = subst (λ (x : Sent). IsBuffer bytes r.geometry.page_size x.pages x.offset
                (length_of next_one.request.transfer)) (sym kept_here.sent) own_place.buffer;
            told = is ∙ same_command_result held.dword0 held.status;
            came = held.bytes;
          }

      module _ {q : Request} (of_run : q ≡ get_or r.requests b.collected q) where
        -- the request that was sent is request q
        pub same : next_one.request ≡ q
        same = request_is kept_here ∙ get_or_default r.requests b.collected next_one.request q number_inside
            ∙ sym of_run

        module _ {at : RequestPlace} {size : ℕ} (e : CommandPages) (its : at ≡ place_in r.geometry (all_pages (o e)))
            (page : size ≡ r.geometry.page_size) where
          -- its place is that of the request that was sent
          at_is : at ≡ place_in r.geometry kept_here.pages
          at_is = its ∙ ap (place_in r.geometry) ((held_at e).pages ∙ own_is kept_here)

          -- the data of request q in these pages has the places of the request
          pub places_are : buffer_places size at.pages at.offset (length_of q.transfer)
              ≡ places_of r.geometry.page_size next_one
          places_are =
              let n = length_of q.transfer in
              let kept = ap (λ (x : Sent). buffer_places r.geometry.page_size x.pages x.offset n) kept_here.sent in
              let long = ap (λ (e : Request). buffer_places r.geometry.page_size next_one.pages next_one.offset
              (length_of e.transfer)) same in
              cc (page, at_is, kept, long)

          -- its data lies in its place
          pub answer_buffer : IsBuffer bytes size at.pages at.offset (length_of q.transfer)
          answer_buffer = rw (page, at_is, ap (λ (e : Request). length_of e.transfer) (sym same)) own_place.buffer

      module _ {k : Command} (of_run : request_of k ≡ get_or r.requests b.collected (request_of k))
          (sends : IsSendable k) {at : RequestPlace} {size : ℕ} (e : CommandPages)
          (its : at ≡ place_in r.geometry (all_pages (o e))) (page : size ≡ r.geometry.page_size) where
        -- the answer that is read is the next one of the list
        pub answers_more : {answers : List Answer} {a : Answer} → HasAnswers r b.collected answers
            → a ≡ answer_from k p (received_from (transfer_by k) bytes
            (buffer_places size at.pages at.offset (length_of (transfer_by k))))
            → HasAnswers r (b.collected + 1) (set answers b.collected a)
        answers_more {answers} {a} has value =
            let c = r.controller in
            let state = r.bus.state in
            let xs = u.course.sent in
            let size = length-answers c state xs in
            let few = no_more in
            let all = answers_are r.pair.next_cid r.requests xs b.sent u.requests c state in
            record {
              len = length-set answers b.collected a ∙ has.len;
              first = take_more_set answers b.collected a (omega (arith, has.len, number_inside))
                  ∙ ap (λ ys. ys ++ a ∷ []) (has.first ∙ sym (all b.collected (omega (arith, few))))
                  ∙ ap (λ y. take b.collected (answers_to c state xs) ++ y ∷ []) (value
                  ∙ ap (λ ps. answer_from k p (received_from (transfer_by k) bytes ps)) (places_are of_run e its page)
                  ∙ ap (λ (e : Request). answer_to e.asked p (received_from e.transfer bytes
                  (places_of r.geometry.page_size next_one))) (sym (same of_run))
                  ∙ answer_here.reads (subst (λ (e : Request). IsReadable e.asked) (sym (same of_run)) sends)
                  ∙ sym (answer_at c state xs b.collected no_command a (omega (arith, few, more, u.sent))))
                  ∙ sym (take_more (answers_to c state xs) b.collected a (omega (arith, size, u.sent, few, more)))
                  ∙ all (b.collected + 1) (omega (arith, few, more));
            }

-- ---- what was received

-- as long as a request's answer isn't collected, nothing else of the host's side matters
pub received_on : (what : Requests) {r : Run} {n : ℕ} (answers : List Answer) (places places' : List CommandPages)
    (bytes bytes' : List ℕ) (last last' : CommandResult) → IsRunOf r what → n < length r.requests
    → AreReceived what r n answers places bytes last → AreReceived what r n answers places' bytes' last'
received_on (sends.Commands ks) answers places places' bytes bytes' last last' of below got = got
received_on (sends.Entry e given) answers places places' bytes bytes' last last' of below got =
    λ some. absurd (omega (arith, some, below, ap (λ (qs : List Request). length qs) of.requests))
