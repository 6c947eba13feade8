-- Requests on their way: what submissions, doorbells, turns and collections leave.
use Rattle.nv_driver.proofs.Words.{[], ℕ, ◌*◌, ◌++◌, ◌+◌, ◌-◌, ◌<◌, ◌==◌, ◌∙◌, ◌∷◌, ◌≡◌, ◌≤◌, Answer, AreApart, Bell}
use Rattle.nv_driver.proofs.Words.{BusValue, CanCollect, Collect, Course, Cqe, Doing, Event, Follows, Geometry, Happens}
use Rattle.nv_driver.proofs.Words.{HasFreeSlot, Holds, IsAwaitedThere, IsBus, IsLeft, IsOnWay, IsPlaceFor, IsReady}
use Rattle.nv_driver.proofs.Words.{IsRequest, IsSubmittedAt, IsTold, KeepsBelow, List, MaySubmit, Pages}
use Rattle.nv_driver.proofs.Words.{QueuePairFields, RegisterBank, Request, RequestPlace, Run, Sent, Setting, State}
use Rattle.nv_driver.proofs.Words.{Submit, Tell, Turn, Way, World, after_some, answer_awaited, ap, arith, awaited}
use Rattle.nv_driver.proofs.Words.{awaited_completion, bank_at, beginning, between_kept, cid_after, cid_at}
use Rattle.nv_driver.proofs.Words.{collect_ring, collected_one, completion_at, entry, false, first_in_slot, first_kept}
use Rattle.nv_driver.proofs.Words.{first_world, get_or, get_or-set_same, inl, known_to, length, length-append}
use Rattle.nv_driver.proofs.Words.{length-set, length_of, limit_of, min, mod_below, mul-le-mul_right, nat_tests}
use Rattle.nv_driver.proofs.Words.{new_bank, next, not, number, pair_after, pair_value, refl, run_of, sent_at}
use Rattle.nv_driver.proofs.Words.{set-get_or, set-set, setting_of, side, slice_set, slot, slot_of, submit_ring}
use Rattle.nv_driver.proofs.Words.{submitted_one, subst, sym, told_all, true, way, with_register_at, with_submission}
use Rattle.nv_driver.proofs.Words.{world_by, world_of}
use Rattle.nv_driver.proofs.BatchLaws.{cid_next}
use Rattle.nv_driver.proofs.CountLaws.{number_above, number_below, number_next}
use Rattle.nv_driver.proofs.KeptLaws.{bell_keeps, collect_keeps, collect_ring_is, idle_keeps, is_found, is_idle}
use Rattle.nv_driver.proofs.KeptLaws.{submit_ring_is, tell_keeps}
use Rattle.nv_driver.proofs.ScheduleLaws.{bell_others, collect_others, others_now, tell_others, turn_others}
use Rattle.nv_driver.proofs.SubmitLaws.{submit_keeps, submit_others}
use Rattle.nv_driver.proofs.SubmittingLaws.{AreFrom, outside_before, pairs_same}
use Rattle.nv_driver.proofs.TurnLaws.{no_command, turn_keeps, turn_takes}
use Rattle.nv_bus.specs.Turn as T

-- a schedule with an equal state and equal registers is the same
same_world : (w : Way) (bytes : List ℕ) {s s' : State} {p p' : RegisterBank} → s ≡ s' → p ≡ p'
    → world_by w s p bytes ≡ world_by w s' p' bytes
same_world w bytes e f = cc

-- the test that a number differs from itself is false
none_untold : (n : ℕ) → false ≡ not (n == n)
none_untold n = grind (arith, nat_tests)

-- a number below k isn't k
above_told : (h k : ℕ) → h < k → true ≡ not (h == k)
above_told h k low = grind (arith, nat_tests)

-- ---- register banks

-- register bank c after it was set is the one that was set
pub bank_set : (banks : List RegisterBank) (c : ℕ) (p : RegisterBank) → c < length banks
    → bank_at (slice_set banks c p) c ≡ p
bank_set banks c p below = get_or-set_same banks c p new_bank below

-- setting a register bank twice sets it to the value that it has in the end
pub set_again : (banks one two : List RegisterBank) (c : ℕ) (p q : RegisterBank) → c < length banks
    → one ≡ slice_set banks c p → two ≡ slice_set one c q
    → two ≡ slice_set banks c (bank_at two c)
set_again banks one two c p q below first second =
    let all : two ≡ slice_set banks c q = second ∙ ap (λ x. slice_set x c q) first ∙ set-set banks c p q in
    let at : bank_at two c ≡ q = ap (λ x. bank_at x c) all ∙ bank_set banks c q below in
    all ∙ ap (slice_set banks c) (sym at)

-- ---- the beginning

-- no request of the run was sent yet
abbrev pub first_way : Run → Way
first_way r = way r (record { sent = []; answers = []; events = [] }) 0 0 0

-- at the beginning of a run with a ready controller, its requests are on their way
pub begins : {B : Type 0} {doing : Doing B} {start : B} {g : Geometry} {c : ℕ} {bus : BusValue} {l : QueuePairFields}
    {now : ℕ} {bytes : List ℕ} (qs : List Request) → IsReady g bus c l now bytes
    → IsOnWay doing start (first_way (run_of g c bus l bytes qs)) bus start l now bytes
begins {g = g} {c = c} {bus = bus} {l = l} {now = now} {bytes = bytes} qs ready =
    let r = run_of g c bus l bytes qs in
    let t = setting_of r in
    let same = same_world (first_way r) bytes {s = bus.state} {s' = bus.state} refl ready.bank in
    let next_cid : l.next_cid ≡ cid_at r 0 = omega (arith, ready.laid.next_cid) in
    record {
      begun = subst (λ n. IsReady g bus c l n bytes) ready.page_size ready;
      page_size = ready.page_size;
      size = refl;
      keeps = rw same (idle_keeps t (beginning t bytes bus.state) (is_idle g bus c l now bytes ready));
      others = rw same (others_now t (beginning t bytes bus.state));
      lawful = ready.bus;
      banks = sym (set-get_or bus.banks c new_bank);
      pair = pairs_same (submit_ring_is g c (limit_of bus.state c) bytes l ready.quiet ready.laid.number)
          (collect_ring_is g c (limit_of bus.state c) bytes l ready.quiet ready.laid.number) next_cid;
      ran = (same, refl);
    }

module _ {B : Type 0} {doing : Doing B} {start on : B} {w : Way} {bus : BusValue} {l : QueuePairFields} {now : ℕ}
    {bytes : List ℕ} (u : IsOnWay doing start w bus on l now bytes) where
  -- the schedule of the run's controller
  abbrev t : Setting
  t = setting_of w.run

  -- the state of the schedule
  abbrev world : World
  world = world_of w bus bytes

  -- the controller has registers
  pub has_bank : w.run.controller < length bus.banks
  has_bank =
      let size = ap (λ (x : List RegisterBank). length x) u.banks ∙ length-set w.run.bus.banks w.run.controller _ in
      omega (arith, u.begun.controller)

  -- one more event, which was due
  abbrev pub more_events : Event → Course
  more_events e = record w.course { events = e ∷ w.course.events }

  -- its geometry doesn't change
  pub geometry_is : l.geometry ≡ w.run.geometry
  geometry_is = ap (λ (o : QueuePairFields). o.geometry) u.pair ∙ u.begun.shape

  -- the free pages are those that the queue pair has
  pages_of_pair : {l' : QueuePairFields} {s : Pages} (m k h : ℕ) → l' ≡ pair_after w.run m k h s
      → l' ≡ pair_after w.run m k h l'.pages
  pages_of_pair m k h is = is ∙ ap (pair_after w.run m k h) (sym (ap (λ (o : QueuePairFields). o.pages) is))

  -- ---- a submission

  -- the way after one more request was submitted
  abbrev pub more_sent : Sent → Way
  more_sent x =
      record w { course = record w.course { sent = w.course.sent ++ x ∷ []; events = Submit x ∷ w.course.events } }

  -- if fewer requests than slots are outstanding, the submission ring has a free slot
  pub free_slot : length w.course.sent + 1 < length w.course.answers + t.depth → HasFreeSlot l bytes
  free_slot free =
      let c = u.keeps.counts in
      let far = number_above t (length w.course.answers) (length w.course.sent) (omega (arith, u.begun.laid.deep.0))
      (omega (arith, c.collected, c.done, c.rung)) (omega (arith, free)) in
      rw u.pair (record {
        next_cid = mod_below (w.run.pair.next_cid + length w.course.sent) 65535 (omega arith);
        ring = u.keeps.placed.submissions;
        free = λ full. omega (arith, far, full, free);
      })

  -- with its data in pages from one on that doesn't come before the queue pair's
  pub submits_on : {now' tail first : ℕ} {at : RequestPlace} {q : Request} {l' : QueuePairFields} {mem : List ℕ}
      {s : Pages}
      (sub : IsSubmittedAt w.run.geometry.page_size at q (record l { pages = s }) l' bytes mem now' tail)
      → IsRequest t.limit q
      → IsPlaceFor bytes now at (length_of q.transfer) → AreFrom first at → w.run.pair.pages.first ≤ first
      → length w.course.sent + 1 < length w.course.answers + t.depth
      → ((n : ℕ) (d : Sent) → length w.course.answers ≤ n → n < length w.course.sent
      → AreApart (get_or w.course.sent n d) (sent_at at q l.next_cid sub.prp1 sub.prp2))
      → doing w.course.events (Submit (sent_at at q l.next_cid sub.prp1 sub.prp2)) world (world_of (more_sent
      (sent_at at q l.next_cid sub.prp1 sub.prp2)) bus mem) on on
      → IsOnWay doing start (more_sent (sent_at at q l.next_cid sub.prp1 sub.prp2)) bus on l' now' mem
  submits_on {first = first} {at} {q} {mem = mem} {s} sub can its_place from behind free apart its_time =
      let x = sent_at at q l.next_cid sub.prp1 sub.prp2 in
      let laid = u.begun.laid in
      let size = w.run.geometry.page_size in
      let place = rw (u.page_size) at its_place in
      let low : w.run.pair.pages.first * size ≤ first * size = mul-le-mul_right size behind in
      let may : MaySubmit t world x = record {
        free = free;
        can = can;
        cid = omega (arith, (free_slot free).next_cid);
        buffer = place.buffer;
        list = place.list;
        distinct = place.distinct;
        submissions = outside_before size first x t.sq (64 * t.depth) from (omega (arith, laid, low));
        completions = outside_before size first x t.cq (16 * t.depth) from (omega (arith, laid, low));
        apart = apart;
      } in
      let m = length w.course.sent in
      let k = length w.course.answers in
      let v = more_sent x in
      let ring : l.submission ≡ submit_ring t m k = ap (λ (o : QueuePairFields). o.submission) u.pair in
      let put = sub.mem ∙ ap (λ r. with_submission sub.ready r (entry x)) ring in
      let more : m + 1 ≡ length (w.course.sent ++ x ∷ []) = sym (length-append w.course.sent (x ∷ [])) in
      let happens : Happens t (Submit x) world (world_of v bus mem) =
      (may, sub.ready, sub.prepared, ap (λ bs. record world { mem = bs; sent = w.course.sent ++ x ∷ [] }) put) in
      let keeps = submit_keeps t w.run.bus.state x world (world_of v bus mem) u.keeps happens in
      let others = submit_others t w.run.bus.state 0 w.run.bytes x world (world_of v bus mem) u.keeps u.others happens
      in
      let pair = pages_of_pair _ _ _ (sub.pair ∙ ap (λ (o : QueuePairFields). record o {
        submission = submitted_one o.submission;
        next_cid = cid_after o.next_cid;
        pages = s;
      }) u.pair
      ∙ pairs_same (ap (λ n. record (submit_ring t m k) { submitted = n }) (number_next t m)
      ∙ ap (λ n. submit_ring t n k) more) refl (cid_next w.run.pair.next_cid m ∙ ap (cid_at w.run) more)) in
      let ran : Follows doing t (Submit x ∷ w.course.events) (first_world w.run) start (world_of v bus mem) on =
      (world, on, u.ran, its_time, happens) in assumption (sub.page, sub.len ∙ u.size, keeps, others, pair, ran, u)

  -- the tail after one more request is the slot of the next number
  pub tail_after : {tail : ℕ} → tail ≡ slot_of l.submission.depth (next l.submission.depth l.submission.submitted)
      → tail ≡ slot t (length w.course.sent + 1)
  tail_after is =
      is ∙ ap (λ (o : QueuePairFields). slot_of o.submission.depth (next o.submission.depth o.submission.submitted))
      u.pair ∙ ap (slot_of t.depth) (number_next t (length w.course.sent))

  -- ---- doorbells

  -- writing a register of the controller changes its register bank, and no other since the beginning
  bank_is : (bus' : BusValue) {c value new : ℕ} (offset : ℕ) → c ≡ w.run.controller → value ≡ new
      → bus'.banks ≡ slice_set bus.banks c (with_register_at (bank_at bus.banks c) offset value)
      → (bank_at bus'.banks w.run.controller
      ≡ with_register_at (bank_at bus.banks w.run.controller) offset new)
      × (bus'.banks ≡ slice_set w.run.bus.banks w.run.controller (bank_at bus'.banks w.run.controller))
  bank_is bus' {c} {value} {new} offset same put banks =
      let own = rw (put, same) at banks in (
        ap (λ ps. bank_at ps w.run.controller) own ∙ bank_set bus.banks w.run.controller _ has_bank,
        set_again w.run.bus.banks bus.banks bus'.banks w.run.controller _ _ u.begun.controller u.banks own,
      )

  -- the way after the tail doorbell was rung
  abbrev pub rung_way : Way
  rung_way = record w { course = more_events Bell; rung = length w.course.sent }

  -- the tail doorbell was rung
  pub rings : {bus' : BusValue} {on' : B} {c value : ℕ} → c ≡ w.run.controller → value ≡ slot t (length w.course.sent)
      → bus'.state ≡ bus.state
      → bus'.banks ≡ slice_set bus.banks c (with_register_at (bank_at bus.banks c) 0x1000 value)
      → (IsBus bus → IsBus bus') → doing w.course.events Bell world (world_of rung_way bus' bytes) on on'
      → IsOnWay doing start rung_way bus' on' l now bytes
  rings {bus'} {on'} same put state banks lawful its_time =
      let v = rung_way in
      let is = bank_is bus' 0x1000 same put banks in
      let happens : Happens t Bell world (world_of v bus' bytes) = same_world v bytes state is.0 in
      let keeps = bell_keeps t w.run.bus.state world (world_of v bus' bytes) u.keeps happens in
      let others = bell_others t 0 w.run.bytes world (world_of v bus' bytes) u.others happens in
      let ran : Follows doing t (Bell ∷ w.course.events) (first_world w.run) start (world_of v bus' bytes) on' =
      (world, on, u.ran, its_time, happens) in assumption (keeps, others, lawful u.lawful, is.1, ran, u)

  -- the head to write is the slot of the next answer
  pub head_at : slot_of l.completion.depth l.completion.collected ≡ slot t (length w.course.answers)
  head_at = ap (λ (o : QueuePairFields). slot_of o.completion.depth o.completion.collected) u.pair

  -- it is to be written if an answer isn't reported
  pub untold_is : w.told < length w.course.answers → l.completion.untold ≡ true
  untold_is some = ap (λ (o : QueuePairFields). o.completion.untold) u.pair ∙ sym (above_told w.told _ some)

  -- nothing is to be written if all answers were reported, and the queue pair stays
  pub silent_is : w.told ≡ length w.course.answers
      → (l.completion.untold ≡ false) × (record l { completion = told_all l.completion } ≡ l)
  silent_is all =
      let n = length w.course.answers in
      let is : l ≡ pair_after w.run (length w.course.sent) n n l.pages =
      u.pair ∙ ap (λ k. pair_after w.run (length w.course.sent) n k l.pages) all in
      let told_none : false ≡ not (n == n) = none_untold n in (
        ap (λ (o : QueuePairFields). o.completion.untold) is ∙ sym told_none,
        ap (λ (o : QueuePairFields). record o { completion = told_all o.completion }) is
            ∙ pairs_same refl (ap (λ e. record (collect_ring t n n) { untold = e }) told_none) refl ∙ sym is,
      )

  -- the way after the head doorbell was rung
  abbrev pub told_way : Way
  told_way = record w { course = more_events Tell; told = length w.course.answers }

  -- the head doorbell was rung for all collected answers
  pub tells_on : {bus' : BusValue} {on' : B} {l' : QueuePairFields} {c : ℕ} → c ≡ w.run.controller
      → w.told < length w.course.answers → IsTold c l bus l' bus'
      → doing w.course.events Tell world (world_of told_way bus' bytes) on on'
      → IsOnWay doing start told_way bus' on' l' now bytes
  tells_on {bus'} {on'} same some h its_time =
      let n = length w.course.answers in
      let v = told_way in
      let is = bank_is bus' 0x1004 same head_at (h.told (untold_is some)) in
      let happens : Happens t Tell world (world_of v bus' bytes) = same_world v bytes h.state is.0 in
      let keeps = tell_keeps t w.run.bus.state world (world_of v bus' bytes) u.keeps happens in
      let others = tell_others t 0 w.run.bytes world (world_of v bus' bytes) u.others happens in
      let pair = pages_of_pair _ _ _ (h.pair
      ∙ ap (λ (o : QueuePairFields). record o { completion = told_all o.completion }) u.pair
      ∙ pairs_same refl (ap (λ e. record (collect_ring t n n) { untold = e }) (none_untold n)) refl) in
      let ran : Follows doing t (Tell ∷ w.course.events) (first_world w.run) start (world_of v bus' bytes) on' =
      (world, on, u.ran, its_time, happens) in assumption (keeps, others, h.bus u.lawful, is.1, pair, ran, u)

  -- ---- a turn

  -- the way after a turn that took so many entries
  abbrev pub turned_way : ℕ → ℕ → Way
  turned_way most count = record w { course = more_events (Turn most); done = w.done + count }

  -- the controller had a turn, which took as many entries as it could
  pub turned : {bus' : BusValue} {on' : B} {now' asked most count c : ℕ} {mem : List ℕ} → c ≡ w.run.controller
      → asked ≡ most → T.Turn now c asked count bus bytes bus' mem → IsBus bus' → length mem ≡ length bytes → now' ≡ now
      → doing w.course.events (Turn most) world (world_of (turned_way most count) bus' mem) on on'
      → IsOnWay doing start (turned_way most count) bus' on' l now' mem
      × (count ≡ min most (min (w.rung - w.done) (w.run.pair.submission.depth - 1 - (w.done - w.told))))
  turned {bus'} {on'} {now'} {asked} {most} {count} {c} {mem} same pace turn lawful size page its_time =
      let v = turned_way most count in
      let own = rw (pace, same) at turn in
      let happens : Happens t (Turn most) world (world_of v bus' mem) =
      (count, rw u.page_size at own.own, refl) in
      let keeps = turn_keeps t w.run.bus.state most world (world_of v bus' mem) u.keeps happens in
      let others = turn_others t w.run.bus.state 0 w.run.bytes most world (world_of v bus' mem) u.keeps u.others happens
      in
      let banks = set_again w.run.bus.banks bus.banks bus'.banks w.run.controller _ _ u.begun.controller u.banks
      own.others in
      let ran : Follows doing t (Turn most ∷ w.course.events) (first_world w.run) start (world_of v bus' mem) on' =
      (world, on, u.ran, its_time, happens) in (
        assumption (ran, page ∙ u.page_size, size ∙ u.size, keeps, others, banks, u),
        omega (arith, turn_takes t w.run.bus.state most world (world_of v bus' mem) u.keeps happens),
      )

  -- ---- a collection

  module _ (more : length w.course.answers < w.done) where
    -- the awaited completion is there
    there : IsAwaitedThere bytes (awaited t world)
    there = (is_found t w.run.bus.state world u.keeps).1 more

    -- the request whose answer is awaited
    abbrev next_one : Sent
    next_one = get_or w.course.sent (length w.course.answers) no_command

    -- the answer to that request is held
    pub held : Holds t w.run.bus.state world (length w.course.answers) next_one
    held = u.keeps.held (length w.course.answers) no_command (omega arith) more

    -- the awaited completion is in its slot
    pub completion_is : awaited_completion bytes l.completion ≡ completion_at bytes t.cq
        (slot t (length w.course.answers))
    completion_is = ap (λ (o : QueuePairFields). awaited_completion bytes o.completion) u.pair

    -- the awaited completion has the head after its request
    head_is : (awaited_completion bytes l.completion).sq_head ≡ slot t (length w.course.answers + 1)
    head_is = ap (λ (c : Cqe). c.sq_head) completion_is ∙ held.head

    -- the awaited completion can be collected
    pub can_collect : CanCollect l bytes
    can_collect =
        let m = length w.course.sent in
        let k = length w.course.answers in
        let c = u.keeps.counts in
        let freed = between_kept t.depth (t.start + k) 1 (m - k) (t.start + (k + 1)) (t.start + m)
        (omega (arith, c.done, c.rung, more)) (omega (arith, c.few)) (omega arith)
        (omega (arith, c.done, c.rung, more)) in
        rw u.pair (record {
          inside = u.keeps.placed.completions;
          awaited = there;
          freed = rw (ap (λ (e : Cqe). e.sq_head) (sym completion_is) ∙ head_is) freed;
        })

    -- the answer to that request, as it is read
    abbrev pub answer_next : Answer
    answer_next = answer_awaited t world next_one

    -- the way after the answer was collected
    abbrev pub collected_way : Way
    collected_way = record w {
      course = record w.course { answers = w.course.answers ++ answer_next ∷ []; events = Collect ∷ w.course.events };
    }

    -- the answer was collected
    pub collects_on : {l' : QueuePairFields} {q : Cqe} {s : Pages} → q ≡ awaited_completion bytes l.completion
        → l' ≡ record l {
          submission = known_to l.submission q.sq_head;
          completion = collected_one l.completion;
          pages = s;
        }
        → doing w.course.events Collect world (world_of collected_way bus bytes) on on
        → IsOnWay doing start collected_way bus on l' now bytes
    collects_on {l'} {q} {s} is first its_time =
        let m = length w.course.sent in
        let k = length w.course.answers in
        let v = collected_way in
        let c = u.keeps.counts in
        let deep = u.keeps.placed.deep in
        let happens : Happens t Collect world (world_of v bus bytes) = inl (there, no_command, refl) in
        let freed : first_in_slot t.depth (number t k) q.sq_head ≡ number t (k + 1) =
        ap (λ (e : Cqe). first_in_slot t.depth (number t k) e.sq_head) is
        ∙ ap (first_in_slot t.depth (number t k)) head_is
        ∙ first_kept t.depth (t.start + (k + 1)) (t.start + k) 1 (omega arith) (omega (arith, deep.0)) in
        let one_more : k + 1 ≡ length (w.course.answers ++ answer_next ∷ []) =
        sym (length-append w.course.answers (answer_next ∷ [])) in
        let ring : known_to (submit_ring t m k) q.sq_head ≡ submit_ring t m (k + 1) =
        ap (λ n. record (submit_ring t m k) { known = n }) freed in
        let collected : collected_one (collect_ring t k w.told) ≡ collect_ring t (k + 1) w.told =
        cc (number_next t k, above_told w.told (k + 1) (omega (arith, c.told))) in
        let keeps = collect_keeps t w.run.bus.state world (world_of v bus bytes) u.keeps happens in
        let others = collect_others t 0 w.run.bytes world (world_of v bus bytes) u.others happens in
        let pair = pages_of_pair _ _ _ (first ∙ ap (λ (o : QueuePairFields). record o {
          submission = known_to o.submission q.sq_head;
          completion = collected_one o.completion;
          pages = s;
        }) u.pair
        ∙ pairs_same (ring ∙ ap (submit_ring t m) one_more) (collected ∙ ap (λ n. collect_ring t n w.told) one_more)
        refl) in
        let ran : Follows doing t (Collect ∷ w.course.events) (first_world w.run) start (world_of v bus bytes) on =
        (world, on, u.ran, its_time, happens) in assumption (keeps, others, pair, ran, u)

-- ---- the end

-- all n requests were executed, and their answers collected and reported
pub left_after : {B : Type 0} {doing : Doing B} {start on : B} {w : Way} {bus : BusValue} {l : QueuePairFields}
    {now before end : ℕ} {bytes : List ℕ} (n : ℕ)
    → IsOnWay doing start w bus on l now bytes → length w.course.sent ≡ n → length w.course.answers ≡ n → w.rung ≡ n
    → w.done ≡ n
    → w.told ≡ n → l.pages ≡ w.run.pair.pages → before ≡ w.run.geometry.page_size
    → KeepsBelow end w.run.geometry.page_size (pair_value w.run.pair) w.run.bytes bytes
    → IsLeft w.run.geometry w.run.controller end (after_some n (pair_value w.run.pair))
    (side w.run.bus w.run.pair before w.run.bytes) (side bus l now bytes)
left_after {w = w} {bus} {l} {now} {before} {bytes = bytes} n u sent collected rung done told pages page others =
    let r = w.run in
    let t = setting_of r in
    let begun = u.begun in
    let laid = begun.laid in
    let deep = laid.deep in
    let is : l ≡ pair_after r n n n r.pair.pages =
    u.pair ∙ pairs_same (rw (sent, collected) refl) (rw (collected, told) refl) (ap (cid_at r) sent)
    ∙ ap (pair_after r n n n) pages in
    record {
      ready = subst (λ q. IsReady r.geometry bus r.controller q now bytes) (sym is) (assumption (
        sym (none_untold n),
        number_below t n (omega (arith, deep.0)),
        mod_below (r.pair.next_cid + n) 65535 (omega arith),
        rw (sym u.size) at laid.inside,
        rw (done) at u.keeps.tags,
        has_bank u,
        rw (rung, done, told) at u.keeps.bank,
        u,
      ));
      banks = u.banks;
      pair = ap pair_value is;
      others = others;
      len = u.size;
      page = u.page_size ∙ sym page;
    }
