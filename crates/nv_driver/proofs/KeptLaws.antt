-- What a schedule preserves from a queue pair without outstanding commands on, when a doorbell is rung or an answer is
-- collected, and its state after the schedule has ended.
use Rattle.nv_driver.proofs.Words.{[], ℕ, ◌%◌, ◌*◌, ◌++◌, ◌+◌, ◌<◌, ◌↔◌, ◌∙◌, ◌∷◌, ◌≡◌, ◌≤◌, All, AreInOrder, Bell}
use Rattle.nv_driver.proofs.Words.{Bool, BusValue, Collect, CollectNumbers, Geometry, Happens, Holds, HoldsTags}
use Rattle.nv_driver.proofs.Words.{IsApart, IsAwaitedThere, IsIdle, IsLaid, IsOf, IsQuiet, IsReadable, IsReady, Keeps}
use Rattle.nv_driver.proofs.Words.{KeepsBelow, KeepsOutside, List, OthersStay, QueuePair, QueuePairFields, RegisterBank}
use Rattle.nv_driver.proofs.Words.{Sent, Setting, State, Tell, World, answer_awaited, answers_to, ap, arith, awaited}
use Rattle.nv_driver.proofs.Words.{bank_with, beginning, cases_lt, collect_ring, completion_at, device_rings, false}
use Rattle.nv_driver.proofs.Words.{get_or, get_or_append_left, get_or_default, get_or_push, inl, inr, kept_number}
use Rattle.nv_driver.proofs.Words.{length, length-append, limit_of, mod-eq_of_lt, mul-le-mul_right, not_own, number}
use Rattle.nv_driver.proofs.Words.{own_pages, pair_value, phase_of, refl, setting, slot, submit_ring, subst, sym}
use Rattle.nv_driver.proofs.Words.{tag_below_here, tag_there, with_register_at}
use Rattle.nv_driver.proofs.CountLaws.{head_told, number_above, number_below, numbers_differ, slot_inside, tail_rung}
use Rattle.nv_driver.proofs.AnswerLaws.{holds_on}
use Rattle.nv_driver.proofs.BatchLaws.{answer_at}

-- ---- the beginning

-- the rings start at the number of command 0
pub number_zero : (t : Setting) → t.start < 2 * t.depth → t.start ≡ number t 0
unfolding kept_number
number_zero t h = let sum : t.start + 0 ≡ t.start =
    omega arith in sym (ap (λ n. n % (2 * t.depth)) sum ∙ mod-eq_of_lt h)

-- what holds for a schedule holds at an idle controller
pub idle_keeps : (t : Setting) (w : World) → IsIdle t w → Keeps t w.state w
idle_keeps t w i =
    let no_sent = ap (λ xs. length xs) i.sent in
    let no_answers = ap (λ xs. length xs) i.answers in
    let deep = i.deep in
    record {
      placed = assumption i;
      counts = omega (arith, i.told, i.done, i.rung, no_answers, no_sent, deep.0);
      bank = rw (i.rung, i.done, i.told) i.bank;
      state = rw (i.done) refl;
      well_formed = i.state;
      controller = i.controller;
      limit = i.limit;
      own = λ n d from below. absurd (omega (arith, no_sent));
      apart = λ n m d from later below. absurd (omega (arith, no_sent));
      named = λ n d from below. absurd (omega (arith, no_sent));
      waiting = λ n d from below. absurd (omega (arith, no_sent));
      to_send = λ n d from below. absurd (omega (arith, no_sent));
      held = λ n d from below. absurd (omega (arith, i.done));
      tags = subst (HoldsTags w.mem t.cq t.depth) (number_zero t i.start ∙ ap (number t) (sym i.done)) i.tags;
      answers = λ n below. absurd (omega (arith, no_answers));
    }

-- ---- doorbells change a count and the registers

-- other counts of the doorbells, in order and with the registers that go with them, keep what holds
told_otherwise : (t : Setting) (s : State) (w : World) (rung told : ℕ) (bank : RegisterBank) → Keeps t s w
    → AreInOrder t.depth (length w.answers) w.done rung (length w.sent) told
    → bank ≡ bank_with t (device_rings t rung w.done told)
    → Keeps t s (record w { bank = bank; rung = rung; told = told })
told_otherwise t s w rung told bank k counts is =
    let v = record w { bank = bank; rung = rung; told = told } in
    let held : (n : ℕ) (d : Sent) → length w.answers ≤ n → n < w.done → Holds t s v n (get_or w.sent n d) =
    λ n d from below. holds_on t s w v n (get_or w.sent n d) refl refl refl (k.held n d from below) in
    assumption (counts, is, held)

-- ringing the tail doorbell keeps what holds for the schedule
pub bell_keeps : (t : Setting) (s : State) (w w' : World) → Keeps t s w → Happens t Bell w w' → Keeps t s w'
bell_keeps t s w w' k happens =
    let c = k.counts in
    let m = length w.sent in
    subst (Keeps t s) (sym happens)
    (told_otherwise t s w m w.told _ k
    (omega (arith, c)) (ap (λ p. with_register_at p 0x1000 (slot t m)) k.bank
    ∙ tail_rung t w.rung w.done w.told m (omega (arith, c.done, c.rung)) (omega (arith, c.few, c.collected))))

-- ringing the head doorbell keeps what holds for the schedule
pub tell_keeps : (t : Setting) (s : State) (w w' : World) → Keeps t s w → Happens t Tell w w' → Keeps t s w'
tell_keeps t s w w' k happens =
    let c = k.counts in
    let n = length w.answers in
    subst (Keeps t s) (sym happens)
    (told_otherwise t s w w.rung n _ k
    (omega (arith, c)) (ap (λ p. with_register_at p 0x1004 (slot t n)) k.bank
    ∙ head_told t w.rung w.done w.told n c.told c.collected c.free))

-- ---- an answer is collected

-- the awaited completion is there only if a command was executed whose answer wasn't collected
posted : (t : Setting) (w : World) (d k : ℕ) → 0 < t.depth → k ≤ d → HoldsTags w.mem t.cq t.depth (number t d)
    → (completion_at w.mem t.cq (slot t k)).phase ≡ phase_of t.depth (number t k) → k < d
posted t w d k some low tags there =
    elim (cases_lt k d) [
      | inl l ↦ l
      | inr g ↦
          let same : k ≡ d = omega arith in
          let here = tags (slot t d) (slot_inside t d some)
          ∙ tag_below_here t.depth (number t d) (number_below t d some) in
          absurd (not_own _ _ here (rw (← same) there))
    ]

-- the awaited completion is found if and only if a command was executed whose answer wasn't collected
pub is_found : (t : Setting) (s : State) (w : World) → Keeps t s w
    → IsAwaitedThere w.mem (awaited t w) ↔ (length w.answers < w.done)
is_found t s w k =
    let c = k.counts in
    let deep = k.placed.deep in
    let some : 0 < t.depth = omega (arith, deep.0) in
    let n = length w.answers in
    let far = number_above t n w.done some c.collected (omega (arith, c.done, c.rung, c.few)) in (
      posted t w w.done n some c.collected k.tags,
      λ more. k.tags (slot t n) (slot_inside t n some) ∙ tag_there t.depth (number t w.done) (number t n)
          (number_below t w.done some) (number_below t n some) (omega (arith, far, c.done, c.rung, c.few))
          (λ same. numbers_differ t n w.done more (omega (arith, c.done, c.rung, c.few)) (sym same)),
    )

-- collecting the answer of a command that was executed keeps what holds for the schedule
collected_one : (t : Setting) (s : State) (w : World) (d : Sent) → Keeps t s w → length w.answers < w.done
    → Keeps t s (record w { answers = w.answers ++ answer_awaited t w (get_or w.sent (length w.answers) d) ∷ [] })
collected_one t s w d k below =
    let c = k.counts in
    let n = length w.answers in
    let a = answer_awaited t w (get_or w.sent n d) in
    let more : length (w.answers ++ a ∷ []) ≡ n + 1 = length-append w.answers (a ∷ []) in
    record {
      placed = k.placed;
      counts = omega (arith, more, c, below);
      bank = k.bank;
      state = k.state;
      well_formed = k.well_formed;
      controller = k.controller;
      limit = k.limit;
      own = λ i e from high. k.own i e (omega arith) high;
      apart = λ i j e from later high. k.apart i j e (omega arith) later high;
      named = λ i e from high. k.named i e (omega arith) high;
      waiting = k.waiting;
      to_send = k.to_send;
      held = λ i e from high. holds_on t s w _ i _ refl refl refl (k.held i e (omega arith) high);
      tags = k.tags;
      answers = λ i low x e can. elim (cases_lt i n) [
        | inl l ↦ get_or_append_left w.answers (a ∷ []) e i l ∙ k.answers i l x e can
        | inr g ↦
            let last : i ≡ n = omega arith in
            let inside : n < length w.sent = omega (arith, c.done, c.rung) in
            let same : get_or w.sent i x ≡ get_or w.sent n d =
            ap (λ j. get_or w.sent j x) last ∙ get_or_default w.sent n x d inside in
            get_or_push w.answers a e i (sym last)
            ∙ (k.held n d (omega arith) below).answer.reads (subst (λ (y : Sent). IsReadable y.request.asked) same can)
            ∙ sym (answer_at t.controller s w.sent n d e inside)
            ∙ ap (λ j. get_or (answers_to t.controller s w.sent) j e) (sym last)
      ];
    }

-- collecting, whether an answer is found or not, keeps what holds for the schedule
pub collect_keeps : (t : Setting) (s : State) (w w' : World) → Keeps t s w → Happens t Collect w w' → Keeps t s w'
collect_keeps t s w w' k (inl there) =
    subst (Keeps t s) (sym there.2) (collected_one t s w there.1 k ((is_found t s w k).0 there.0))
collect_keeps t s w w' k (inr none) = subst (Keeps t s) (sym none.1) k

-- ---- a queue pair without outstanding commands

-- a ready controller without outstanding commands is idle
pub is_idle : (g : Geometry) (b : BusValue) (c : ℕ) (l : QueuePairFields) (now : ℕ) (bytes : List ℕ)
    → IsReady g b c l now bytes
    → let t = setting g c (limit_of b.state c) (pair_value l) in IsIdle t (beginning t bytes b.state)
is_idle g b c l now bytes r =
    let laid = r.laid in
    let t = setting g c (limit_of b.state c) (pair_value l) in
    let rings : IsApart t.sq (64 * t.depth) t.cq (16 * t.depth) = inr laid.rings in
    let submissions : t.sq + 64 * t.depth ≤ length bytes = omega (arith, laid.rings, laid.pages, laid.inside) in
    let completions : t.cq + 16 * t.depth ≤ length bytes = omega (arith, laid.pages, laid.inside) in
    let bank : t.bank ≡ bank_with t (device_rings t 0 0 0) = rw (← number_zero t laid.number) refl in
    let controller : c < length b.state.controllers = omega (arith, r.controller, r.bus.banks) in
    let limit : limit_of b.state c ≡ t.limit = refl in assumption

-- the host's rings of a queue pair without outstanding commands are those at the beginning of a schedule
pub submit_ring_is : (g : Geometry) (c limit : ℕ) (bytes : List ℕ) (l : QueuePairFields) → IsQuiet l
    → l.submission.submitted < 2 * l.submission.depth
    → l.submission ≡ submit_ring (setting g c limit (pair_value l)) 0 0
submit_ring_is g c limit bytes l quiet below =
    rw (← number_zero (setting g c limit (pair_value l)) below)
    (ap (λ n. record l.submission { known = n }) quiet.known)

-- the host's completion ring is the one with which the schedule begins
pub collect_ring_is : (g : Geometry) (c limit : ℕ) (bytes : List ℕ) (l : QueuePairFields) → IsQuiet l
    → l.submission.submitted < 2 * l.submission.depth
    → l.completion ≡ collect_ring (setting g c limit (pair_value l)) 0 0
collect_ring_is g c limit bytes l quiet below =
    let ring : ℕ → ℕ → ℕ → Bool → CollectNumbers = λ d n told untold.
    record { base = l.completion.base; depth = d; collected = n; told = told; untold = untold } in
    let all : ring l.completion.depth l.completion.collected l.completion.told l.completion.untold
    ≡ ring l.submission.depth l.submission.submitted l.submission.submitted false = cc in
    rw (← number_zero (setting g c limit (pair_value l)) below) all

-- ---- the end

-- if each request's pages were those of the set, what is in no ring and no such page doesn't change
pub outside_kept : (g : Geometry) {c limit : ℕ} (l : QueuePairFields) {bytes : List ℕ} {w : World}
    → OthersStay (setting g c limit (pair_value l)) 0 bytes w
    → ((i : ℕ) (d : Sent) → i < length w.sent
    → All (λ p. IsOf l.pages.first l.pages.count p) (own_pages (get_or w.sent i d)))
    → KeepsOutside g.page_size (pair_value l) bytes w.mem
outside_kept g l {w = w} others own from n sq cq pages =
    others.same from n (record {
      submissions = sq;
      completions = cq;
      pages = λ i d low h j e inside.
          let one = own i d h j e inside in
          let last : get_or (own_pages (get_or w.sent i d)) j e + 1 ≤ l.pages.first + l.pages.count =
          omega (arith, one.1) in
          grind (arith, pages, mul-le-mul_right g.page_size one.0, mul-le-mul_right g.page_size last);
    })

-- so nothing outside the queue pair changes
pub pair_kept : {page_size size : ℕ} {v : QueuePair} (old new : List ℕ) → IsLaid page_size size v
    → KeepsOutside page_size v old new → (end : ℕ) → KeepsBelow end page_size v old new
pair_kept old new laid keeps end from n low apart =
    keeps from n (grind (arith, apart, laid.rings, laid.pages, laid.inside))
    (grind (arith, apart, laid.rings, laid.pages)) (grind (arith, apart, laid.rings, laid.pages))
