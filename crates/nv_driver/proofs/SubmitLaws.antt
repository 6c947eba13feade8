-- What doesn't change at a submission.
use Rattle.nv_driver.proofs.Words.{[], ℕ, ◌*◌, ◌++◌, ◌+◌, ◌<◌, ◌∙◌, ◌∷◌, ◌≡◌, ◌≤◌, AreApart, AreOutside, ChangesOnly}
use Rattle.nv_driver.proofs.Words.{Happens, HasRings, Holds, HoldsSent, IsOwn, IsPrepared, Keeps, List, MaySubmit}
use Rattle.nv_driver.proofs.Words.{OthersStay, Sent, Setting, SqeFits, State, StaysNamed, Submit, SubmitNumbers, World}
use Rattle.nv_driver.proofs.Words.{after, answers_to, ap, arith, bytes_at, cases_lt, data_length, entry, get_or}
use Rattle.nv_driver.proofs.Words.{get_or_append_left, get_or_push, inl, inr, length, length-append}
use Rattle.nv_driver.proofs.Words.{length-with_submission, page_size_bounds, places, push_written, refl, rest_distinct}
use Rattle.nv_driver.proofs.Words.{slot, submission_at, submit_ring, subst, sym, take-append-le, with_submission}
use Rattle.nv_driver.proofs.CountLaws.{slot_inside, slots_differ}
use Rattle.nv_driver.proofs.AnswerLaws.{holds_on}
use Rattle.nv_driver.proofs.RegionLaws.{ChangesOnlyAt, Stays, buffer_data, completion_same, holds_sent_on, stays_apart}
use Rattle.nv_driver.proofs.RegionLaws.{stays_beside, submission_keeps, submission_same}
use Rattle.nv_driver.proofs.PointerLaws.{stays_in}
use Rattle.nv_driver.proofs.SubmittingLaws.{others_kept}
use Rattle.nv_driver.proofs.BatchLaws.{answers-append, length-answers}

-- ---- the schedule goes on

-- what holds for each request from a number on, and for one more, holds for each with that one
pub each_more : (P : ℕ → Sent → Type 0) (low : ℕ) (xs : List Sent) (x : Sent)
    → ((n : ℕ) (d : Sent) → low ≤ n → n < length xs → P n (get_or xs n d))
    → P (length xs) x → (n : ℕ) (d : Sent) → low ≤ n → n < length (xs ++ x ∷ []) → P n (get_or (xs ++ x ∷ []) n d)
each_more P low xs x each last n d from below =
    let more : length (xs ++ x ∷ []) ≡ length xs + 1 = length-append xs (x ∷ []) in
    elim (cases_lt n (length xs)) [
      | inl l ↦ subst (P n) (sym (get_or_append_left xs (x ∷ []) d n l)) (each n d from l)
      | inr g ↦
          let is : n ≡ length xs = omega arith in
          subst (P n) (sym (get_or_push xs x d n (sym is))) (subst (λ i. P i x) (sym is) last)
    ]

-- requests of which no two have a page in common, and one more that has none in common with them, have none in common
apart_more : (low : ℕ) (xs : List Sent) (x : Sent)
    → ((n m : ℕ) (d : Sent) → low ≤ n → n < m → m < length xs → AreApart (get_or xs n d) (get_or xs m d))
    → ((n : ℕ) (d : Sent) → low ≤ n → n < length xs → AreApart (get_or xs n d) x)
    → (n m : ℕ) (d : Sent) → low ≤ n → n < m → m < length (xs ++ x ∷ [])
    → AreApart (get_or (xs ++ x ∷ []) n d) (get_or (xs ++ x ∷ []) m d)
apart_more low xs x each last n m d from later below =
    let more : length (xs ++ x ∷ []) ≡ length xs + 1 = length-append xs (x ∷ []) in
    let early : n < length xs = omega arith in
    subst (λ y. AreApart y (get_or (xs ++ x ∷ []) m d)) (sym (get_or_append_left xs (x ∷ []) d n early))
    (elim (cases_lt m (length xs)) [
      | inl l ↦ subst (AreApart (get_or xs n d)) (sym (get_or_append_left xs (x ∷ []) d m l)) (each n m d from later l)
      | inr g ↦ subst (AreApart (get_or xs n d)) (sym (get_or_push xs x d m (omega arith))) (last n d from early)
    ])

module _ (t : Setting) (s : State) (x : Sent) (w : World) (ready : List ℕ) (k : Keeps t s w) (may : MaySubmit t w x)
    (prepared : IsPrepared t.page_size x w.mem ready) where
  -- the host's submission ring before the submission
  abbrev ring : SubmitNumbers
  ring = submit_ring t (length w.sent) (length w.answers)

  -- the schedule after the submission
  abbrev next : World
  next = record w { mem = with_submission ready ring (entry x); sent = w.sent ++ x ∷ [] }

  -- a page has a byte
  some : 0 < t.page_size
  some = omega (arith, page_size_bounds t.page_size k.placed.page_size)

  -- a ring has a slot
  some_slots : 0 < t.depth
  some_slots = let deep = k.placed.deep in omega (arith, deep.0)

  -- the submission ring lies in the memory
  inside : t.sq + 64 * t.depth ≤ length ready
  inside = omega (arith, k.placed.submissions, prepared.len)

  -- writing the entry keeps the length of the memory
  same_size : length next.mem ≡ length ready
  same_size = length-with_submission ready ring (entry x) some_slots inside

  -- the submission keeps the length of the memory
  len : length next.mem ≡ length w.mem
  len = same_size ∙ prepared.len

  -- writing the entry changes only the submission ring
  only_ring : ChangesOnly t.sq (64 * t.depth) ready next.mem
  only_ring from n apart = submission_keeps ready ring (entry x) from n some_slots inside apart

  -- preparing the request changes only its pages
  others : (from n : ℕ) → AreOutside t.page_size x from n → bytes_at ready from n ≡ bytes_at w.mem from n
  others = others_kept t.page_size x w.mem ready k.placed.page_size may.buffer may.list may.distinct prepared

  -- the submission changes only the request's pages and the submission ring
  only : ChangesOnlyAt t x t.sq (64 * t.depth) w.mem next.mem
  only from n outside apart = only_ring from n apart ∙ others from n outside

  -- the request's pages belong to it
  own : IsOwn t (length w.mem) x
  own =
      let at = buffer_data t.page_size x w.mem some may.buffer
      (rest_distinct x.first x.second x.pages may.distinct) in
      let within : (i : ℕ) → i < data_length x → get_or (places t.page_size x) i 0 < length w.mem =
      λ i below. at.inside i (omega (arith, at.size)) in assumption (within, at.distinct, may)

  -- the completion ring doesn't change
  completions_stay : bytes_at next.mem t.cq (16 * t.depth) ≡ bytes_at w.mem t.cq (16 * t.depth)
  completions_stay = only t.cq (16 * t.depth) may.completions k.placed.rings

  -- its own list and data since its pages were prepared, and those of others
  own_stays : Stays t x ready next.mem
  own_stays = stays_beside t x t.sq (64 * t.depth) ready next.mem some same_size may.buffer.enough may.submissions
      only_ring

  -- the lists and the data of other outstanding requests don't change
  other_stays : (n : ℕ) (d : Sent) → length w.answers ≤ n → n < length w.sent
      → Stays t (get_or w.sent n d) w.mem next.mem
  other_stays n d from below =
      let other = k.own n d from below in
      stays_apart t x (get_or w.sent n d) t.sq (64 * t.depth) w.mem next.mem some len only other.enough
      (may.apart n d from below) other.submissions

  -- what holds for the schedule holds after the submission too
  submitted : Keeps t s next
  submitted =
      let c = k.counts in
      let more = length-append w.sent (x ∷ []) in
      record {
        placed = subst (HasRings t) (sym len) k.placed;
        counts = omega (arith, c, may.free, more);
        bank = k.bank;
        state = k.state ∙ ap (after t.controller s)
            (sym (take-append-le w.done w.sent (x ∷ []) (omega (arith, c.done, c.rung))));
        well_formed = k.well_formed;
        controller = k.controller;
        limit = k.limit;
        own = rw len (each_more (λ _ y. IsOwn t (length w.mem) y) (length w.answers) w.sent x k.own own);
        apart = apart_more (length w.answers) w.sent x k.apart may.apart;
        named = each_more (λ n y. StaysNamed t.page_size y next.mem) (length w.answers) w.sent x
            (λ n d from below. stays_in t.page_size (get_or w.sent n d) w.mem next.mem (other_stays n d from below).list
            (k.named n d from below))
            (stays_in t.page_size x ready next.mem own_stays.list prepared.stays);
        waiting =
            let fits : SqeFits (entry x) = assumption (prepared.prp1, prepared.prp2, may.cid, may.can.fits) in
            let written = push_written ready ring (entry x) some_slots inside fits in
            each_more (λ n y. submission_at next.mem t.sq (slot t n) ≡ entry y) w.done w.sent x (λ n d from below.
            let low = slot_inside t n some_slots in
            written.others (slot t n) low
            (λ e. slots_differ t n (length w.sent) below (omega (arith, c.few, c.collected)) (sym e))
            ∙ submission_same t w.mem ready (slot t n) (others t.sq (64 * t.depth) may.submissions) low
            ∙ k.waiting n d from below) written.here;
        to_send = each_more (λ n y. HoldsSent t.page_size y next.mem) w.done w.sent x
            (λ n d from below. holds_sent_on t (get_or w.sent n d) w.mem next.mem
            (other_stays n d (omega (arith, c.collected)) below).read (k.to_send n d from below))
            (holds_sent_on t x ready next.mem own_stays.read prepared.sent);
        held = λ n d from below.
            let early : n < length w.sent = omega (arith, c.done, c.rung) in
            subst (Holds t s next n) (sym (get_or_append_left w.sent (x ∷ []) d n early))
            (holds_on t s w next n (get_or w.sent n d) (completion_same t w.mem next.mem (slot t n) completions_stay
            (slot_inside t n some_slots)) (other_stays n d from early).read
            (take-append-le n w.sent (x ∷ []) (omega arith)) (k.held n d from below));
        tags = λ slot below. ap (λ e. e.phase) (completion_same t w.mem next.mem slot completions_stay below)
            ∙ k.tags slot below;
        answers = λ n below d e can.
            let all = answers_to t.controller s w.sent in
            let early : n < length w.sent = omega (arith, c.collected, c.done, c.rung) in
            k.answers n below d e (rw (← get_or_append_left w.sent (x ∷ []) d n early) can)
            ∙ sym (ap (λ as_one. get_or as_one n e) (answers-append t.controller s w.sent (x ∷ []))
            ∙ get_or_append_left all _ e n (omega (arith, length-answers t.controller s w.sent)));
      }

  -- the submission changes no other bytes
  others_stay : (first : ℕ) (old : List ℕ) → OthersStay t first old w → OthersStay t first old next
  others_stay first old stay =
      let c = k.counts in
      let more : length next.sent ≡ length w.sent + 1 = length-append w.sent (x ∷ []) in
      record {
        since = stay.since;
        same = λ from n apart.
            only from n
            (subst (λ y. AreOutside t.page_size y from n) (get_or_push w.sent x x (length w.sent) refl)
            (apart.pages (length w.sent) x (omega (arith, stay.since, c)) (omega (arith, more))))
            apart.submissions
            ∙ stay.same from n (record {
              submissions = apart.submissions;
              completions = apart.completions;
              pages = λ i d low high.
                  subst (λ y. AreOutside t.page_size y from n) (get_or_append_left w.sent (x ∷ []) d i high)
                  (apart.pages i d low (omega (arith, more, high)));
            });
      }

-- a submission keeps what holds for the schedule
pub submit_keeps : (t : Setting) (s : State) (x : Sent) (w w' : World) → Keeps t s w
    → Happens t (Submit x) w w' → Keeps t s w'
submit_keeps t s x w w' k happens = subst (Keeps t s) (sym happens.3)
    (submitted t s x w happens.1 k happens.0 happens.2)

-- a submission changes no other bytes
pub submit_others : (t : Setting) (s : State) (first : ℕ) (old : List ℕ) (x : Sent) (w w' : World) → Keeps t s w
    → OthersStay t first old w → Happens t (Submit x) w w' → OthersStay t first old w'
submit_others t s first old x w w' k stay happens = subst (OthersStay t first old) (sym happens.3)
    (others_stay t s x w happens.1 k happens.0 happens.2 first old stay)
