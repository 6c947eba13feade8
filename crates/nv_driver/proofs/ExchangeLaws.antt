-- A single entry: a run of one request, with its data in the pages behind those of all controllers.
use Rattle.nv_driver.proofs.Words.{[], ℕ, ◌%◌, ◌*◌, ◌+◌, ◌∙◌, ◌∷◌, ◌≡◌, ◌≤◌, Answer, AreSendable, Asked, BusTurn}
use Rattle.nv_driver.proofs.Words.{BusValue, Comes, CommandPages, CommandResult, Delivers, Err, Geometry, IsBuffer}
use Rattle.nv_driver.proofs.Words.{IsHeard, IsHeld, IsLeft, IsPaced, IsReadIn, IsReady, IsReceived, IsRequest, IsRunOf}
use Rattle.nv_driver.proofs.Words.{KeepsOutside, LiesInPages, List, NumberSet, Ok, Pages, QueuePair, QueuePairFields}
use Rattle.nv_driver.proofs.Words.{Request, RequestPlace, Requests, Run, Sent, Sqe, SqeFits, Status, TailWrite}
use Rattle.nv_driver.proofs.Words.{Transfer, Write, after_some, all_of, all_pages, ap, arith, asked_in, buffer_places}
use Rattle.nv_driver.proofs.Words.{bytes_read, came_with, command_result_of, entry_step, get_or, greatest_limit, length}
use Rattle.nv_driver.proofs.Words.{length-take, length_of, limit_bounds, limit_of, min, mul-le-mul_right, numbered}
use Rattle.nv_driver.proofs.Words.{numbered_request, padded, pages_of_entry, pair_value, place_in, received_from, refl}
use Rattle.nv_driver.proofs.Words.{request_for, requests_in, run_of, side, status_in, step_of, subst, sym, transfer_for}
use Rattle.nv_driver.proofs.AnswerLaws.{IsAnswerTo, answer_sound}
use Rattle.nv_driver.proofs.PointerLaws.{few_of_entry, own_is}
use Rattle.nv_driver.proofs.PaddingLaws.{length-padded}
use Rattle.nv_driver.proofs.RequestLaws.{every_entry}
use Rattle.nv_driver.proofs.TurnLaws.{no_command}
use Rattle.nv_driver.proofs.UnderWayLaws.{request_is, room_few}

-- the data that comes back by a status belongs to the answer with this status
comes_by : (asked : Asked) (a : Answer) (status : Status) (bytes : List ℕ) → status ≡ status_in a
    → IsAnswerTo asked a → Delivers asked a bytes → Comes asked a (came_with status bytes)
comes_by (Ok k) (Ok reply) status bytes is sound delivered = rw is delivered
comes_by (Ok k) (Err refused) status bytes is sound delivered = rw (is, sound.1) refl
comes_by (Err code) (Ok reply) status bytes is sound delivered = absurd sound
comes_by (Err code) (Err refused) status bytes is sound delivered = rw (is, sound.1) refl

-- bytes that are cut or filled up to some length have this length
padded_same : (n : ℕ) (came : List ℕ) {out : List ℕ} → out ≡ padded n came → out ≡ padded (length out) came
padded_same n came is =
    is ∙ ap (λ k. padded k came) (sym (ap (λ (xs : List ℕ). length xs) is ∙ length-padded n came))

-- a list of one request
only_one : (xs : List Sent) → length xs ≡ 1 → xs ≡ get_or xs 0 no_command ∷ []
only_one (x ∷ []) one = refl
only_one xs one = absurd (omega arith)

-- a queue pair is as ready with other pages behind its rings, of which all are free
pub ready_with : {g : Geometry} {bus : BusValue} {c : ℕ} {l : QueuePairFields} {now : ℕ} {bytes : List ℕ} (s : Pages)
    → IsReady g bus c l now bytes → s.members ≡ all_of s.first s.count
    → l.completion.base + 16 * l.submission.depth ≤ s.first * g.page_size
    → (s.first + s.count) * g.page_size ≤ length bytes → IsReady g bus c (record l { pages = s }) now bytes
ready_with s ready free behind inside = assumption (free, behind, inside, ready)

-- a ready controller, an entry, and pages for it behind the queue pair
pub record CanPass (g : Geometry) (bus : BusValue) (c : ℕ) (l : QueuePairFields) (now : ℕ) (bytes : List ℕ) (e : Sqe)
    (s : Pages) : Type 0 where
  pub ready : IsReady g bus c l now bytes
  pub fits : SqeFits e
  pub free : s.members ≡ all_of s.first s.count
  pub behind : l.pages.first + l.pages.count ≤ s.first
  pub inside : (s.first + s.count) * g.page_size ≤ length bytes
  pub room : pages_of_entry g.page_size ≤ s.count

module _ {g : Geometry} {bus : BusValue} {c : ℕ} {l : QueuePairFields} {now : ℕ} {bytes : List ℕ} {e : Sqe}
    (given : List ℕ) {s : Pages} (a : CanPass g bus c l now bytes e s) where
  -- the queue pair with these pages is ready
  pub own_ready : IsReady g bus c (record l { pages = s }) now bytes
  own_ready =
      let low : l.pages.first ≤ s.first = omega (arith, a.behind) in
      ready_with s a.ready a.free (omega (arith, a.ready.laid.pages, mul-le-mul_right g.page_size low)) a.inside

  -- the request, and its run
  abbrev q : Request
  q = request_for (limit_of bus.state c) e given

  abbrev pub r : Run
  r = run_of g c bus (record l { pages = s }) bytes (q ∷ [])

  -- it can be submitted
  can : IsRequest (limit_of bus.state c) q
  can = every_entry (limit_of bus.state c) e given (limit_bounds bus.state c a.ready.bus.state
      (omega (arith, a.ready.controller, a.ready.bus.banks))).1 a.fits

  -- the run has these requests
  pub of_entry : (what : Requests) → requests_in (limit_of bus.state c) what ≡ q ∷ [] → AreSendable what
      → IsRunOf r what
  of_entry what is sends =
      let few : min g.window 1 ≤ 1 = omega arith in
      record {
        requests = is;
        can = λ i d h. let first : i ≡ 0 = omega arith in rw first can;
        sends = sends;
        most = greatest_limit;
        brief = λ i d h. let first : i ≡ 0 = omega arith in rw first (room_few (transfer_for e) can.room);
        room = omega (arith, mul-le-mul_right (pages_of_entry g.page_size) few, a.room);
      }

  -- all pages are free again
  pub pages_back : {end : ℕ} {bus' : BusValue} {l' : QueuePairFields} {now' : ℕ} {mem : List ℕ}
      → IsLeft g c end (after_some 1 (pair_value (record l { pages = s })))
      (side bus (record l { pages = s }) now bytes) (side bus' l' now' mem) → l'.pages ≡ s
  pages_back {l' = l'} h =
      let pages : ℕ → ℕ → NumberSet → Pages = λ first count members.
      record { first = first; count = count; members = members } in
      let first = ap (λ (v : QueuePair). v.first_page) h.pair in
      let count = ap (λ (v : QueuePair). v.page_count) h.pair in
      let free = h.ready.quiet.free in
      let all : pages l'.pages.first l'.pages.count l'.pages.members ≡ pages s.first s.count s.members =
      cc (first, count, free, a.free) in all

  -- with its own pages again, the queue pair is as it is after a command
  pub left_with : {bus' : BusValue} {l' : QueuePairFields} {now' : ℕ} {mem : List ℕ}
      → IsLeft g c (length bytes) (after_some 1 (pair_value (record l { pages = s })))
      (side bus (record l { pages = s }) now bytes) (side bus' l' now' mem)
      → KeepsOutside g.page_size (pair_value (record l { pages = s })) bytes mem
      → IsLeft g c (s.first * g.page_size) (after_some 1 (pair_value l)) (side bus l now bytes)
      (side bus' (record l' { pages = l.pages }) now' mem)
  left_with h keeps =
      let laid = a.ready.laid in
      record {
        ready = ready_with l.pages h.ready a.ready.quiet.free
            (omega (arith, laid.pages, ap (λ (v : QueuePair). v.cq) h.pair, ap (λ (v : QueuePair). v.depth) h.pair))
            (omega (arith, laid.inside, h.len));
        banks = h.banks;
        pair = ap (λ (v : QueuePair).
            record v { first_page = l.pages.first; page_count = l.pages.count }) h.pair;
        others = λ from n low apart. keeps from n (grind (arith, apart, laid.rings, laid.pages, laid.inside))
            (grind (arith, apart, laid.rings, laid.pages)) (grind (arith, low));
        len = h.len;
        page = h.page;
      }

  -- ---- the answer

  module _ {places : List CommandPages} {mem : List ℕ} {last : CommandResult} (h : IsHeard r places mem last) where
    -- the step of the request is that of the entry
    step_is : (step_of c bus.state (numbered h.one)).answer ≡ (entry_step bus.state c e given l.next_cid).answer
    step_is =
        let cid : (l.next_cid + 0) % 65535 ≡ l.next_cid = omega (arith, a.ready.laid.next_cid) in
        ap (λ n. (step_of c bus.state n).answer) (ap numbered h.kept.sent ∙ ap (numbered_request q) cid)

    -- the completion tells what the answer of its step says
    pub command_result_is : last ≡ command_result_of (entry_step bus.state c e given l.next_cid).answer
    command_result_is = h.told ∙ ap command_result_of step_is

    -- it has some pages, and not too many
    pub few_pages : (other : CommandPages)
        → ((get_or places 0 other).count ≤ 259) × (2 ≤ (get_or places 0 other).count)
    few_pages other =
        let o = get_or places 0 other in
        let held = h.held other in
        let many = ap (λ (ps : List ℕ). length ps) (held.pages ∙ own_is h.kept) ∙ h.kept.many in
        let few = room_few h.one.request.transfer (rw (request_is h.kept) can.room) in
        let most = (few_of_entry g (length_of h.one.request.transfer) a.ready.geometry few) in (
          omega (arith, many, most, held.few, length-take o.count o.numbers),
          omega (arith, many, held.few, length-take o.count o.numbers),
        )

    -- the place in its pages, and the transfer of the entry
    module _ {at : RequestPlace} {size : ℕ} {m : Transfer} (other : CommandPages)
        (its : at ≡ place_in g (all_pages (get_or places 0 other))) (page : size ≡ g.page_size)
        (moves : m ≡ transfer_for e) where
      -- a request with its data in these pages
      module _ {x : Sent} (kept : LiesInPages r 0 x) (held : IsHeld (get_or places 0 other) x) where
        at_is : at ≡ place_in g kept.pages
        at_is = its ∙ ap (place_in g) (held.pages ∙ own_is kept)

        -- what is read there are its bytes
        read_is : received_from m mem (buffer_places size at.pages at.offset (length_of m))
            ≡ bytes_read g.page_size x mem
        read_is = rw (page, at_is, moves) (sym (ap (λ (y : Sent). bytes_read g.page_size y mem) kept.sent))

      -- its data lies there
      pub its_buffer : IsBuffer mem size at.pages at.offset (length_of m)
      its_buffer = rw (page, at_is h.kept (h.held other), moves) (rw h.kept.sent at h.buffer)

      -- the bytes that are read by the status, with zeros after them, are what the host receives
      pub received_by : (n : ℕ) {out : List ℕ} → out ≡ padded n (came_with last.status (received_from m mem
          (buffer_places size at.pages at.offset (length_of m))))
          → IsReceived (asked_in bus.state c e given) (entry_step bus.state c e given l.next_cid).answer out
      received_by n {out} filled =
          let x = h.one in
          let bytes = bytes_read g.page_size x mem in
          let came = came_with last.status bytes in
          let is : out ≡ padded n came = filled
          ∙ ap (λ bs. padded n (came_with last.status bs)) (read_is h.kept (h.held other)) in
          let answer = (entry_step bus.state c e given l.next_cid).answer in
          record {
            came = came;
            comes = comes_by q.asked answer last.status bytes (ap (λ (t : CommandResult). t.status) command_result_is)
                (answer_sound q.asked bus.state c e.nsid l.next_cid a.ready.bus.state)
                (subst (λ (p : Request). Delivers p.asked answer bytes) (request_is h.kept)
                (subst (λ answer. Delivers x.request.asked answer bytes) step_is h.came));
            filled = padded_same n came is;
          }

      -- they are those that the memory has in the end at the places of the request that was sent
      pub read_by : {B : Type 0} {wrote : Write B} {rang : TailWrite B} {turned : BusTurn B} {old new : B}
          {bus' : BusValue} (p : IsPaced wrote rang turned r old new bus' mem places) (n : ℕ) {out : List ℕ}
          → out ≡ padded n (came_with last.status (received_from m mem
          (buffer_places size at.pages at.offset (length_of m)))) → IsReadIn g.page_size p.last last.status out
      read_by p n {out} filled =
          let x = get_or p.last.sent 0 no_command in
          let came = came_with last.status (bytes_read g.page_size x p.last.mem) in
          let held = p.held 0 other no_command (omega arith) (omega arith) in
          let read = read_is (p.kept 0 no_command (omega arith)) held in
          let is : out ≡ padded n came = filled ∙ ap (λ bs. padded n (came_with last.status bs)) read
          ∙ ap (λ bytes. padded n (came_with last.status (bytes_read g.page_size x bytes))) (sym p.seen.mem) in
          record { one = x; sent = only_one p.last.sent p.sent; filled = padded_same n came is }
