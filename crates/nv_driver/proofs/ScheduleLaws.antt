-- Bytes that don't change, writes elsewhere, and every schedule.
use Rattle.nv_driver.proofs.Words.{[], ℕ, ◌++◌, ◌+◌, ◌<◌, ◌∙◌, ◌∷◌, ◌≡◌, ◌≢◌, ◌≤◌, All, Bell, Collect, Cqe, Elsewhere}
use Rattle.nv_driver.proofs.Words.{Event, EveryScheduleIsSerial, Happens, HasRings, Keeps, LeavesOutstanding, List}
use Rattle.nv_driver.proofs.Words.{OthersStay, Runs, Sent, Setting, State, Submit, Tell, Turn, World, answer_awaited}
use Rattle.nv_driver.proofs.Words.{ap, arith, get_or, inl, inr, length, length-append, page_size_bounds, refl, slot}
use Rattle.nv_driver.proofs.Words.{subst, suc, sym}
use Rattle.nv_driver.proofs.SubmitLaws.{submit_keeps, submit_others}
use Rattle.nv_driver.proofs.TurnLaws.{turn_keeps, turn_leaves, turn_takes}
use Rattle.nv_driver.proofs.CountLaws.{slot_inside}
use Rattle.nv_driver.proofs.AnswerLaws.{holds_on}
use Rattle.nv_driver.proofs.PointerLaws.{stays_in}
use Rattle.nv_driver.proofs.RegionLaws.{completion_same, holds_sent_on, same_stays, submission_same}
use Rattle.nv_driver.proofs.KeptLaws.{bell_keeps, collect_keeps, idle_keeps, is_found, tell_keeps}

-- ---- bytes that don't change as long as the host doesn't write elsewhere

-- at any moment, no byte has changed since that moment
pub others_now : (t : Setting) (w : World) → OthersStay t (length w.answers) w.mem w
others_now t w = record { since = omega arith; same = λ from n apart. refl }

-- ringing the tail doorbell changes no other bytes
pub bell_others : (t : Setting) (first : ℕ) (old : List ℕ) (w w' : World) → OthersStay t first old w
    → Happens t Bell w w' → OthersStay t first old w'
bell_others t first old w w' stay happens =
    rw happens (assumption stay)

-- ringing the head doorbell changes no other bytes
pub tell_others : (t : Setting) (first : ℕ) (old : List ℕ) (w w' : World) → OthersStay t first old w
    → Happens t Tell w w' → OthersStay t first old w'
tell_others t first old w w' stay happens =
    rw happens (assumption stay)

-- collecting changes no other bytes
pub collect_others : (t : Setting) (first : ℕ) (old : List ℕ) (w w' : World) → OthersStay t first old w
    → Happens t Collect w w' → OthersStay t first old w'
collect_others t first old w w' stay (inl there) =
    let a = answer_awaited t w (get_or w.sent (length w.answers) there.1) in
    let more : length (w.answers ++ a ∷ []) ≡ length w.answers + 1 = length-append w.answers (a ∷ []) in
    subst (OthersStay t first old) (sym there.2) (record { since = omega (arith, stay.since, more); same = stay.same })
collect_others t first old w w' stay (inr none) = subst (OthersStay t first old) (sym none.1) stay

-- a turn changes no other bytes
pub turn_others : (t : Setting) (s : State) (first : ℕ) (old : List ℕ) (most : ℕ) (w w' : World) → Keeps t s w
    → OthersStay t first old w → Happens t (Turn most) w w' → OthersStay t first old w'
turn_others t s first old most w w' keeps stay happens =
    subst (OthersStay t first old) (sym happens.2) (record {
      since = stay.since;
      same = λ from n apart. turn_leaves t s most w w' keeps happens from n (record {
        submissions = apart.submissions;
        completions = apart.completions;
        pages = λ i d low high. apart.pages i d (omega (arith, stay.since, low)) high;
      }) ∙ stay.same from n apart;
    })

-- ---- the host writes elsewhere

-- a memory in which the host wrote elsewhere keeps what holds for the schedule
written : (t : Setting) (s : State) (w : World) (new : List ℕ) → Keeps t s w → LeavesOutstanding t w new
    → Keeps t s (record w { mem = new })
written t s w new k leaves =
    let c = k.counts in
    let p = k.placed in
    let deep = p.deep in
    let some : 0 < t.page_size = omega (arith, page_size_bounds t.page_size p.page_size) in
    let some_slots : 0 < t.depth = omega (arith, deep.0) in
    let stays = λ (n : ℕ) (d : Sent) (from : length w.answers ≤ n) (below : n < length w.sent).
    same_stays t (get_or w.sent n d) w.mem new some leaves.len (k.own n d from below).enough
    (leaves.pages n d from below) in
    record {
      placed = subst (HasRings t) (sym leaves.len) p;
      counts = k.counts;
      bank = k.bank;
      state = k.state;
      well_formed = k.well_formed;
      controller = k.controller;
      limit = k.limit;
      own = rw (leaves.len) (k.own);
      apart = k.apart;
      named = λ n d from below.
          stays_in t.page_size (get_or w.sent n d) w.mem new (stays n d from below).list (k.named n d from below);
      waiting = λ n d from below.
          submission_same t w.mem new (slot t n) leaves.submissions (slot_inside t n some_slots)
          ∙ k.waiting n d from below;
      to_send = λ n d from below.
          holds_sent_on t (get_or w.sent n d) w.mem new (stays n d (omega (arith, c.collected)) below).read
          (k.to_send n d from below);
      held = λ n d from below.
          holds_on t s w (record w { mem = new }) n (get_or w.sent n d)
          (completion_same t w.mem new (slot t n) leaves.completions (slot_inside t n some_slots))
          (stays n d from (omega (arith, c.done, c.rung))).read refl (k.held n d from below);
      tags = λ slot below. ap (λ (e : Cqe). e.phase) (completion_same t w.mem new slot leaves.completions below)
          ∙ k.tags slot below;
      answers = k.answers;
    }

-- ---- every schedule

-- each event keeps what holds for the schedule, and none but a write elsewhere changes other bytes
event_stays : (t : Setting) (s : State) (e : Event) (w w' : World) → Keeps t s w → Happens t e w w' → Keeps t s w'
    × ((first : ℕ) (old : List ℕ) → e ≢ Elsewhere → OthersStay t first old w → OthersStay t first old w')
event_stays t s (Submit x) w w' k happens =
    (submit_keeps t s x w w' k happens, λ first old other stay. submit_others t s first old x w w' k stay happens)
event_stays t s Bell w w' k happens =
    (bell_keeps t s w w' k happens, λ first old other stay. bell_others t first old w w' stay happens)
event_stays t s (Turn most) w w' k happens =
    (turn_keeps t s most w w' k happens, λ first old other stay. turn_others t s first old most w w' k stay happens)
event_stays t s Collect w w' k happens =
    (collect_keeps t s w w' k happens, λ first old other stay. collect_others t first old w w' stay happens)
event_stays t s Tell w w' k happens =
    (tell_keeps t s w w' k happens, λ first old other stay. tell_others t first old w w' stay happens)
event_stays t s Elsewhere w w' k happens =
    (subst (Keeps t s) (sym happens.1) (written t s w w'.mem k happens.0), λ first old other stay. absurd (other refl))

-- events, one after another, keep what holds, and none but writes elsewhere change other bytes
runs_stay : (t : Setting) (s : State) (events : List Event) (w w' : World) → Keeps t s w → Runs t events w w'
    → Keeps t s w' × ((first : ℕ) (old : List ℕ) → All (λ e. e ≢ Elsewhere) events → OthersStay t first old w
    → OthersStay t first old w')
runs_stay t s [] w w' k runs =
    (subst (Keeps t s) (sym runs) k, λ first old other stay. subst (OthersStay t first old) (sym runs) stay)
runs_stay t s (e ∷ events) w w' k runs =
    let one = event_stays t s e w runs.0 k runs.1 in
    let rest = runs_stay t s events runs.0 w' one.0 runs.2 in (
      rest.0,
      λ first old other stay. rest.1 first old (λ i d below. other (suc i) d (omega arith))
          (one.1 first old (other 0 e (omega arith)) stay),
    )

-- every schedule from an idle controller is serial
pub every_schedule : EveryScheduleIsSerial
every_schedule t before old w idle ran =
    let s = old.state in
    let keeps = (runs_stay t s before old w (idle_keeps t old idle) ran).0 in
    record {
      answers = keeps.answers;
      state = keeps.state;
      collected = keeps.counts.collected;
      done = omega (arith, keeps.counts.done, keeps.counts.rung);
      held = keeps.held;
      found = is_found t s w keeps;
      turns = λ most next happens. turn_takes t s most w next keeps happens;
      others = λ events next from n other runs apart. ((runs_stay t s events w next keeps runs).1 (length w.answers)
          w.mem other (others_now t w)).same from n apart;
    }
