-- The effect of taking one entry in a turn, and what doesn't change.
use Rattle.nv_driver.proofs.Words.{[], ℕ, ◌*◌, ◌+◌, ◌-◌, ◌<◌, ◌∙◌, ◌≡◌, ◌≢◌, ◌≤◌, Answer, AreApart, AreOthers}
use Rattle.nv_driver.proofs.Words.{AreOutside, Asked, Call, ChangesOnly, Cqe, CqeFits, Delivers, Err, GoesBy, HasRings}
use Rattle.nv_driver.proofs.Words.{Holds, IsOwn, Keeps, KeepsList, List, MovesBy, Ok, One, Result, Scene, Sent, Setting}
use Rattle.nv_driver.proofs.Words.{Sqe, State, StatusCode, StaysNamed, Step, Takes, Transfer, World, ap, arith}
use Rattle.nv_driver.proofs.Words.{asked_step, bank_with, bytes_at, bytes_to_host, call_of, can_means, can_take}
use Rattle.nv_driver.proofs.Words.{cases_eq, cases_lt, command_in, completion_at, completion_with, data_of}
use Rattle.nv_driver.proofs.Words.{device_rings, distance, entry, get_or, get_or_default, inl, inr, length}
use Rattle.nv_driver.proofs.Words.{length-with_completion, length-written_at, limit_of, number, numbered}
use Rattle.nv_driver.proofs.Words.{page_size_bounds, places, pointed, posted_as, put_written, read_at, received_from}
use Rattle.nv_driver.proofs.Words.{refl, replies_fit, scene, slot, step_of, step_unless, subst, sym, tagged, tags_after}
use Rattle.nv_driver.proofs.Words.{true, with_completion, written_at}
use Rattle.nv_queue.specs.inner.Slots.{WritesCompletion}
use Rattle.nv_register.specs.declared.rings.Rings.{Rings}
use Rattle.nv_driver.proofs.AnswerLaws.{IsAnswerTo, answer_sound, answered, asked_controllers, asked_keeps, asked_limit}
use Rattle.nv_driver.proofs.AnswerLaws.{completion_fits, holds_on}
use Rattle.nv_driver.proofs.DataLaws.{ArePlaces, received_back, received_same, written-nothing}
use Rattle.nv_driver.proofs.CountLaws.{number_above, number_below, number_next, slot_inside, slots_differ}
use Rattle.nv_driver.proofs.RegionLaws.{ChangesOnlyAt, Stays, apart-sym, completion_keeps, completion_same, data_keeps}
use Rattle.nv_driver.proofs.RegionLaws.{holds_sent_on, length-places, stays_apart, stays_beside, submission_same}
use Rattle.nv_driver.proofs.RegionLaws.{written_list}
use Rattle.nv_driver.proofs.PointerLaws.{call_at, entry_call, stays_in}
use Rattle.nv_driver.proofs.BatchLaws.{after_more}

-- ---- which entry is taken

-- the rings of the schedule's controller
abbrev pub now : Setting → World → Rings
now t w = device_rings t w.rung w.done w.told

-- if the controller can take an entry, one is waiting and its completion has a free slot
pub can_go : (t : Setting) (s : State) (w : World) → Keeps t s w → can_take (now t w) ≡ true
    → (w.done < w.rung) × (w.done + 1 < w.told + t.depth)
can_go t s w k can =
    let c = k.counts in
    let deep = k.placed.deep in
    let far = can_means (number t w.done) (number t w.rung)
    (distance t.depth (number t w.done) (number t w.told)) (t.depth - 1) can in
    let gap = number_above t w.told w.done (omega (arith, deep.0))
    (omega (arith, c.told, c.collected)) (omega (arith, c.free)) in (
      elim (cases_lt w.done w.rung) [
        | inl l ↦ l
        | inr g ↦ let same : w.done ≡ w.rung = omega (arith, c.done) in absurd (far.0 (ap (number t) same))
      ],
      omega (arith, far.1, gap, c.free, deep.0),
    )

-- ---- what taking it does

-- an entry was taken, which was found to ask for this, and has this effect
pub record IsTaken (t : Setting) (w : World) (y : Scene) (e : Sqe) (found : Result Call StatusCode) (step : Step)
    : Type 0 where
  pub state : y.state ≡ step.state
  pub rings : y.rings ≡ device_rings t w.rung (w.done + 1) w.told
  pub moved : List ℕ
  pub moves : MovesBy found step.answer w.mem moved
  pub bytes : y.bytes ≡ with_completion moved (now t w).completion
      (completion_with e.cid (slot t (w.done + 1)) step.answer)

-- request x was executed
abbrev pub IsDone : Setting → World → Sent → Scene → Type 0
IsDone t w x y = IsTaken t w y (entry x) (call_at (places t.page_size x) x.request.asked)
    (step_of t.controller w.state (numbered x))

-- the command of what is asked for is what is asked for
asked_there : (at : List ℕ) (asked : Asked) → command_in (call_at at asked) ≡ asked
asked_there at (Ok k) = refl
asked_there at (Err code) = refl

-- if one entry was taken, the next request of the schedule was executed
pub is_done : (t : Setting) (s : State) (w : World) (y : Scene) (d : Sent) → Keeps t s w → w.done < length w.sent
    → One t.controller (scene w.state (now t w) w.mem) y → IsDone t w (get_or w.sent w.done d) y
is_done t s w y d k below one =
    let x = get_or w.sent w.done d in
    let at = places t.page_size x in
    let own = k.own w.done d k.counts.collected below in
    let next_one = number_next t w.done in
    let found = λ (e : Sqe). call_of t.page_size (limit_of w.state t.controller) w.mem e in
    let step = λ (f : Result Call StatusCode) (e : Sqe). step_unless f w.state t.controller e in
    subst (IsTaken t w y (entry x) (call_at at x.request.asked))
    (ap (λ a. asked_step a w.state t.controller x.request.entry.nsid x.cid) (asked_there at x.request.asked))
    (subst (λ f. IsTaken t w y (entry x) f (step f (entry x)))
    (ap (λ n. call_of t.page_size n w.mem (entry x)) k.limit
    ∙ entry_call t x w.mem own.can own.cid (k.named w.done d k.counts.collected below)
    (k.to_send w.done d (omega arith) below))
    (subst (λ e. IsTaken t w y e (found e) (step (found e) e)) (k.waiting w.done d (omega arith) below) (record {
      state = one.state;
      rings = rw next_one at one.rings;
      moved = one.bytes.0;
      moves = one.bytes.1;
      bytes = rw next_one at one.bytes.2;
    })))

-- ---- the memory

-- the data, if there is any, is written to its places
moves_there : (asked : Asked) (at : List ℕ) (a : Answer) (old moved : List ℕ) → MovesBy (call_at at asked) a old moved
    → (xs : List ℕ) × (moved ≡ written_at old at xs)
moves_there (Ok k) at (Ok reply) old moved moves = (data_of k moves.0, moves.2)
moves_there asked at a old moved moves = ([], moves ∙ sym (written-nothing old at))

-- the data of a reply is received, even after its completion was posted
delivered_by : (asked : Asked) (a : Answer) (m : Transfer) (at old moved new : List ℕ)
    → IsAnswerTo asked a → GoesBy asked m → MovesBy (call_at at asked) a old moved
    → ArePlaces m (length old) at → read_at new at ≡ read_at moved at → Delivers asked a (received_from m new at)
delivered_by (Ok k) (Ok reply) m at old moved new is goes moves are same =
    let r = moves.0 in
    let with_tags = tagged k r reply moves.1 is in (
      r,
      moves.1,
      received_same m moved new at same ∙ ap (λ mem. received_from m mem at) moves.2
          ∙ received_back m old at (data_of k r) are
          (replies_fit k r with_tags.0 with_tags.1 ∙ ap bytes_to_host goes.0),
    )
delivered_by asked a m at old moved new is goes moves are same = tt

-- ---- what the entry keeps

-- the schedule after one entry
abbrev pub world_after : Setting → World → Scene → World
world_after t w y = record w {
  mem = y.bytes;
  state = y.state;
  bank = bank_with t (device_rings t w.rung (w.done + 1) w.told);
  done = w.done + 1;
}

-- command w.done is the one that is taken
module _ (t : Setting) (s : State) (w : World) (y : Scene) (d : Sent) (k : Keeps t s w)
    (below : w.done < length w.sent) (one : IsDone t w (get_or w.sent w.done d) y) where
  -- the request that is executed
  abbrev x : Sent
  x = get_or w.sent w.done d

  -- its answer
  abbrev answer : Answer
  answer = (step_of t.controller w.state (numbered x)).answer

  -- its completion
  abbrev posted : Cqe
  posted = completion_with x.cid (slot t (w.done + 1)) answer

  -- its pages belong to it
  own : IsOwn t (length w.mem) x
  own = k.own w.done d k.counts.collected below

  -- a page has a byte
  some : 0 < t.page_size
  some = omega (arith, page_size_bounds t.page_size k.placed.page_size)

  -- a ring has from 1 to 4,096 slots
  some_slots : (0 < t.depth) × (t.depth ≤ 4096)
  some_slots = let deep = k.placed.deep in (omega (arith, deep.0), deep.1)

  -- its answer is one to what it asks for
  sound : IsAnswerTo x.request.asked answer
  sound = answer_sound x.request.asked w.state t.controller x.request.entry.nsid x.cid k.well_formed

  -- its data was written to its places
  put : (xs : List ℕ) × (one.moved ≡ written_at w.mem (places t.page_size x) xs)
  put = moves_there x.request.asked (places t.page_size x) answer w.mem one.moved one.moves

  -- bytes outside its pages don't change when its data is written
  moved_keeps : (from n : ℕ) → AreOutside t.page_size x from n → bytes_at one.moved from n ≡ bytes_at w.mem from n
  moved_keeps from n outside =
      ap (λ m. bytes_at m from n) put.1 ∙ data_keeps t.page_size x w.mem put.0 from n some own.enough outside

  -- writing its data keeps the length of the memory
  size : length one.moved ≡ length w.mem
  size = ap (λ (m : List ℕ). length m) put.1 ∙ length-written_at w.mem (places t.page_size x) put.0

  -- the completion ring lies in the memory
  inside : t.cq + 16 * t.depth ≤ length one.moved
  inside = omega (arith, size, k.placed.completions)

  -- taking the entry keeps the length of the memory
  len : length y.bytes ≡ length w.mem
  len = ap (λ (m : List ℕ). length m) one.bytes
      ∙ length-with_completion one.moved (now t w).completion posted some_slots.0 inside ∙ size

  -- its completion is in its slot, and the other slots don't change
  written : WritesCompletion one.moved y.bytes t.cq t.depth (slot t w.done)
      (posted_as t.depth (number t w.done) posted)
  written =
      let head = slot_inside t (w.done + 1) some_slots.0 in
      let fits : CqeFits posted = completion_fits x.request.asked x.cid (slot t (w.done + 1)) answer own.cid
      (omega (arith, some_slots)) sound in
      subst (λ m. WritesCompletion one.moved m t.cq t.depth (slot t w.done) (posted_as t.depth
      (number t w.done) posted))
      (sym one.bytes) (put_written one.moved (now t w).completion posted some_slots.0 inside fits)

  -- the entry changes only the pages of its command and the completion ring
  beside : ChangesOnly t.cq (16 * t.depth) one.moved y.bytes
  beside from i apart = ap (λ m. bytes_at m from i) one.bytes
      ∙ completion_keeps one.moved (now t w).completion posted from i some_slots.0 inside apart

  -- only its pages and the completion ring change
  only : ChangesOnlyAt t x t.cq (16 * t.depth) w.mem y.bytes
  only from i outside apart =
      beside from i apart ∙ moved_keeps from i outside

  -- its own list and data don't change, nor do those of others
  own_stays : Stays t x one.moved y.bytes
  own_stays = stays_beside t x t.cq (16 * t.depth) one.moved y.bytes some (len
      ∙ sym size) own.enough own.completions beside

  -- its own list doesn't change
  own_list : KeepsList (pointed t.page_size x w.mem) x.first x.second y.bytes
  own_list =
      let moved = rw (← put.1) at (written_list t.page_size x w.mem put.0 some own.enough own.pages) in
      let rest = own_stays.list in
      record {
        len = rest.len ∙ moved.len;
        in_first = λ many. rest.in_first many ∙ moved.in_first many;
        in_second = λ many. rest.in_second many ∙ moved.in_second many;
      }

  -- the lists and the data of other outstanding requests don't change
  other_stays : (i : ℕ) (e : Sent) → length w.answers ≤ i → i < length w.sent → i ≢ w.done
      → Stays t (get_or w.sent i e) w.mem y.bytes
  other_stays i e from high differ =
      let other = k.own i e from high in
      let z = get_or w.sent i e in
      let is = get_or_default w.sent w.done e d below in
      stays_apart t x z t.cq (16 * t.depth) w.mem y.bytes some len only other.enough (elim (cases_lt i w.done) [
        | inl before ↦ subst (AreApart z) is (k.apart i w.done e from before below)
        | inr behind ↦ apart-sym x z (subst (λ q. AreApart q z) is
            (k.apart w.done i e k.counts.collected (omega (arith, differ)) high))
      ]) other.completions

  -- the data pointers of all outstanding requests still name their data
  named_on : (i : ℕ) (e : Sent) → length w.answers ≤ i → i < length w.sent
      → StaysNamed t.page_size (get_or w.sent i e) y.bytes
  named_on i e from high =
      stays_in t.page_size (get_or w.sent i e) w.mem y.bytes
      (elim (cases_eq i w.done) [
        | inl same ↦ rw (ap (λ j. get_or w.sent j e) same ∙ get_or_default w.sent w.done e d below) own_list
        | inr differ ↦ (other_stays i e from high differ).list
      ])
      (k.named i e from high)

  -- its answer is held, and so are those that were held before
  held_now : Holds t s (world_after t w y) w.done x
  held_now = record {
    answer = rw (← k.state) (answered t.page_size x y.bytes (completion_at y.bytes t.cq (slot t w.done)) t.depth
        (number t w.done) x.cid (slot t (w.done + 1)) answer written.here sound
        (delivered_by x.request.asked answer x.request.transfer (places t.page_size x) w.mem one.moved y.bytes sound
        own.can.command one.moves (let size = length-places t.page_size x in
        record { size = size; inside = λ i below. own.inside i (omega arith); distinct = own.distinct })
        own_stays.read));
    cid = ap (λ (q : Cqe). q.cid) written.here;
    head = ap (λ (q : Cqe). q.sq_head) written.here;
  }

  -- the completions in their slots don't change when its data is written
  slots_keep : (j : ℕ) → j < t.depth → completion_at one.moved t.cq j ≡ completion_at w.mem t.cq j
  slots_keep j low = completion_same t w.mem one.moved j (moved_keeps t.cq (16 * t.depth) own.completions) low

  -- the answers to outstanding requests that were executed are held, with its own
  held_on : (i : ℕ) (e : Sent) → length w.answers ≤ i → i < w.done + 1
      → Holds t s (world_after t w y) i (get_or w.sent i e)
  held_on i e from high =
      elim (cases_lt i w.done) [
        | inl earlier ↦
            let low = slot_inside t i some_slots.0 in
            let c = k.counts in
            holds_on t s w (world_after t w y) i (get_or w.sent i e)
            (written.others (slot t i) low (λ same. slots_differ t i w.done earlier
            (omega (arith, below, c.few)) (sym same)) ∙ slots_keep (slot t i) low)
            (other_stays i e from (omega arith) (λ same. absurd (omega arith))).read refl
            (k.held i e from earlier)
        | inr later ↦
            let is : i ≡ w.done = omega arith in
            let same = ap (λ j. get_or w.sent j e) is ∙ get_or_default w.sent w.done e d below in
            rw (same, is) held_now
      ]

  -- what holds for the schedule holds after this entry too
  one_more : w.done < w.rung → w.done + 1 < w.told + t.depth → Keeps t s (world_after t w y)
  one_more waits free =
      let c = k.counts in
      let p = k.placed in
      record {
        placed = subst (HasRings t) (sym len) p;
        counts = omega (arith, c, waits, free);
        bank = refl;
        state = one.state ∙ ap (λ (q : State). (step_of t.controller q (numbered x)).state) k.state
            ∙ sym (after_more t.controller s w.sent w.done d below);
        well_formed = rw one.state (asked_keeps x.request.asked x.request.transfer w.state t.controller
            x.request.entry.nsid x.cid own.can.command own.can.fits.nsid own.cid k.well_formed);
        controller = rw (one.state, asked_controllers x.request.asked w.state t.controller x.request.entry.nsid x.cid)
            (k.controller);
        limit = ap (λ (q : State). limit_of q t.controller) one.state
            ∙ asked_limit x.request.asked w.state t.controller x.request.entry.nsid x.cid t.controller ∙ k.limit;
        own = λ i e from high. subst (λ j. IsOwn t j (get_or w.sent i e)) (sym len) (k.own i e from high);
        apart = k.apart;
        named = named_on;
        waiting = λ i e from high.
            submission_same t w.mem y.bytes (slot t i)
            (only t.sq (64 * t.depth) own.submissions (grind (arith, p.rings))) (slot_inside t i some_slots.0)
            ∙ k.waiting i e (omega arith) high;
        to_send = λ i e from high.
            holds_sent_on t (get_or w.sent i e) w.mem y.bytes
            (other_stays i e (omega (arith, c.collected)) high (λ same. absurd (omega arith))).read
            (k.to_send i e (omega arith) high);
        held = held_on;
        tags = rw (← number_next t w.done) (tags_after one.moved y.bytes t.cq t.depth (number t w.done) posted
            (number_below t w.done some_slots.0) written (λ j low. ap (λ (q : Cqe). q.phase) (slots_keep j low) ∙ k.tags
            j low));
        answers = k.answers;
      }

-- an entry that is taken keeps what holds for the schedule
pub entry_keeps : (t : Setting) (s : State) (w : World) (y : Scene) (d : Sent) → Keeps t s w
    → Takes t.page_size t.controller (scene w.state (now t w) w.mem) y → Keeps t s (world_after t w y)
entry_keeps t s w y d k takes =
    let go = can_go t s w k takes.can in
    let below : w.done < length w.sent = let c = k.counts in omega (arith, go.0, c.rung) in
    one_more t s w y d k below (is_done t s w y d k below takes.one) go.0 go.1

-- bytes in no ring and in no page of an outstanding command don't change
pub entry_others : (t : Setting) (s : State) (w : World) (y : Scene) (d : Sent) → Keeps t s w
    → Takes t.page_size t.controller (scene w.state (now t w) w.mem) y
    → (from n : ℕ) → AreOthers t (length w.answers) w.sent from n → bytes_at y.bytes from n ≡ bytes_at w.mem from n
entry_others t s w y d k takes from n apart =
    let c = k.counts in
    let below : w.done < length w.sent = omega (arith, (can_go t s w k takes.can).0, c.rung) in
    only t s w y d k below (is_done t s w y d k below takes.one) from n (apart.pages w.done d c.collected below)
    apart.completions
