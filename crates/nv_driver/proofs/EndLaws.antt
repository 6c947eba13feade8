-- A list of requests: its beginning, its progress and its end.
use Rattle.nv_driver.proofs.Words.{[], ℕ, ◌<◌, ◌∙◌, ◌≡◌, ◌≤◌, All, Answer, Batch, BusTurn, BusValue, CommandPages}
use Rattle.nv_driver.proofs.Words.{Geometry, HasAnswers, IsLeft, IsPaced, IsReady, IsRequest, IsTold, IsUnderWay}
use Rattle.nv_driver.proofs.Words.{KeepsOutside, List, QueuePairFields, Request, Run, RunOn, TailWrite, Write}
use Rattle.nv_driver.proofs.Words.{after_some, answers_of_all, ap, arith, cases_eq, cases_lt, drop, drop-length, false}
use Rattle.nv_driver.proofs.Words.{from_cid, inl, inr, left_of, length, limit_of, numbered_of, pages_of_all, pair_value}
use Rattle.nv_driver.proofs.Words.{refl, run_of, run_on, side, slot_of, state_after_all, subst, sym, take, take-length}
use Rattle.nv_driver.proofs.Words.{true, without}
use Rattle.nv_driver.proofs.WindowPageLaws.{taken_none}
use Rattle.nv_driver.proofs.BatchLaws.{length-answers_of_all, length-from_cid}
use Rattle.nv_driver.proofs.UnderWayLaws.{counts, world}
use Rattle.nv_driver.proofs.OnWayLaws.{begins, left_after}
use Rattle.nv_driver.proofs.KeptLaws.{outside_kept, pair_kept}
use Rattle.nv_driver.proofs.RoundLaws.{no_more, state_on, tells_on}
use Rattle.nv_driver.proofs.OnWayLaws as W

-- a round makes progress: it collects an answer, or reports what wasn't reported
pub comes_further : (n : ℕ) (b b' : Batch) → b.collected < n → b.collected ≤ b'.collected
    → (b'.collected ≡ b.collected → (b.told < b.collected) × (b'.told ≡ b.collected)) → left_of n b' < left_of n b
comes_further n b b' some more none =
    elim (cases_eq b'.collected b.collected) [
      | inl e ↦ let told = none e in omega (arith, told.0, told.1)
      | inr e ↦ omega (arith, e)
    ]

-- ---- the beginning

-- the run of a run on a bus
pub run_is : {B : Type 0} {o : RunOn B} {r : Run} {start : B} → o ≡ run_on r start → o.run ≡ r
run_is is = ap (λ (x : RunOn _). x.run) is

-- before anything of a list was sent, the list is under way
pub begins_all : {B : Type 0} (wrote : Write B) (rang : TailWrite B) (turned : BusTurn B) (start : B) {g : Geometry}
    {c : ℕ} {bus : BusValue} {l : QueuePairFields} {now : ℕ} {bytes : List ℕ} {requests : List Request}
    {places : List CommandPages} {o : RunOn B} → o ≡ run_on (run_of g c bus l bytes requests) start
    → length places ≡ 16 → IsReady g bus c l now bytes
    → All (λ q. IsRequest (limit_of bus.state c) q) o.run.requests
    → IsUnderWay wrote rang turned o.start o.run 0 0 (record { ctrl = c; sent = 0; collected = 0; told = 0 }) bus start
    l now bytes places
begins_all wrote rang turned start {l = l} {requests = requests} is room ready can =
    let none = taken_none l.pages in
    rw is (record {
      course = record { sent = []; answers = []; events = [] };
      on_way = begins requests ready;
      awake = λ h. h;
      can = rw is at can;
      controller = refl;
      has = record {
        window = omega arith;
        some = omega arith;
        sent = refl;
        requests = refl;
        kept = λ n d h. absurd (omega arith);
        own = λ n d h. absurd (omega arith);
        taken = none.0;
      };
      collected = refl;
      left = sym none.1;
      room = room;
      slots = λ n p d from h. absurd (omega arith);
    })

-- ---- the end

-- what holds if all commands were sent, and their answers collected and reported
pub record HasEnded {B : Type 0} (wrote : Write B) (rang : TailWrite B) (turned : BusTurn B) (start : B) (r : Run)
    (before : ℕ) (bus : BusValue) (on : B) (l' : QueuePairFields) (now : ℕ) (mem : List ℕ)
    (places : List CommandPages) : Type 0 where
  pub state : bus.state ≡ state_after_all r.controller r.bus.state (numbered_of r)
  pub paced : IsPaced wrote rang turned r start on bus mem places
  pub others : KeepsOutside r.geometry.page_size (pair_value r.pair) r.bytes mem
  pub left : IsLeft r.geometry r.controller (length r.bytes) (after_some (length r.requests) (pair_value r.pair))
      (side r.bus r.pair before r.bytes) (side bus l' now mem)

module _ {B : Type 0} {wrote : Write B} {rang : TailWrite B} {turned : BusTurn B} {start on : B} {r : Run}
    {b : Batch} {l : QueuePairFields} {now : ℕ} {mem : List ℕ} {places : List CommandPages} where
  -- if as many answers were collected as there are commands, all commands were sent and all answers collected
  pub all_collected : {bus : BusValue}
      → (u : IsUnderWay wrote rang turned start r b.sent b.collected b bus on l now mem places)
      → length r.requests ≤ b.collected → (b.sent ≡ b.collected) × (b.collected ≡ length r.requests)
  all_collected u enough = let order = no_more u in (omega (arith, order, u.some), omega (arith, order, u.some))

  -- the last doorbell, which is rung if an answer isn't reported, ends the list
  pub ends_all : (meaning : B → BusValue) {on' : B} {l' : QueuePairFields} {before : ℕ}
      → IsUnderWay wrote rang turned start r b.sent b.collected b (meaning on) on l now mem places
      → length r.requests ≤ b.collected → IsTold b.ctrl l (meaning on) l' (meaning on')
      → (l.completion.untold ≡ true
      → wrote on b.ctrl 0x1004 (slot_of l.completion.depth l.completion.collected) on')
      → (l.completion.untold ≡ false → on' ≡ on) → before ≡ r.geometry.page_size
      → HasEnded wrote rang turned start r before (meaning on') on' l' now mem places
  ends_all meaning {on'} {l'} u enough t its_write silent page =
      let all = all_collected u enough in
      let sent = subst (λ n. IsUnderWay wrote rang turned start r n b.collected b (meaning on) on l now mem places)
      all.0 u in
      let v : IsUnderWay wrote rang turned start r b.collected b.collected (record b { told = b.collected })
      (meaning on') on' l' now mem places = elim (cases_lt b.told b.collected) [
        | inl some ↦ tells_on sent t its_write some (inr (inr (sent.collected ∙ all.1)))
        | inr none ↦
            let told : b.told ≡ b.collected = let c = counts sent in omega (arith, c.told) in
            let quiet = W.silent_is sent.on_way (told ∙ sym sent.collected) in
            rw (t.pair ∙ quiet.1, silent quiet.0) (subst (λ n. IsUnderWay wrote rang turned start r b.collected
            b.collected (record b { told = n }) (meaning on) on l now mem places) told sent)
      ] in
      let none : drop b.collected v.course.sent ≡ [] =
      ap (λ i. drop i v.course.sent) (sym (v.sent ∙ all.0)) ∙ drop-length v.course.sent in
      let others = outside_kept r.geometry r.pair v.others (λ i d h. v.own i d (omega (arith, v.sent))) in
      let pages = v.left ∙ ap (λ xs. without r.pair.pages (pages_of_all xs)) none ∙ (taken_none r.pair.pages).1 in
      record {
        state = state_on v ∙ ap (λ qs. state_after_all r.controller r.bus.state (from_cid r.pair.next_cid qs))
            (ap (λ i. take i r.requests) all.1 ∙ take-length r.requests);
        paced = record {
          last = world v;
          steps = record {
            ready = v.begun;
            events = v.course.events;
            ran = v.ran;
            collected = v.collected ∙ all.1;
            told = all.1;
          };
          seen = record { mem = refl; state = refl; bank = refl };
          sent = v.sent ∙ all.0 ∙ all.1;
          kept = λ i d h. v.kept i d (omega (arith, h, all));
          held = λ i p d from h. v.slots i p d (omega (arith, from, all)) (omega (arith, h, all));
        };
        others = others;
        left = rw all.1 at (left_after b.collected v.on_way (v.sent ∙ all.0) v.collected refl refl refl pages page
            (pair_kept r.bytes mem v.begun.laid others (length r.bytes)));
      }

-- the answers of a list that has ended are the ones that its requests get one at a time
pub answers_all : {r : Run} {answers : List Answer} → HasAnswers r (length r.requests) answers
    → answers ≡ answers_of_all r.controller r.bus.state (numbered_of r)
answers_all {r} {answers} has =
    let whole = answers_of_all r.controller r.bus.state (numbered_of r) in
    let size = length-answers_of_all r.controller r.bus.state (numbered_of r)
    ∙ length-from_cid r.pair.next_cid r.requests in
    sym (take-length answers) ∙ ap (λ i. take i answers) has.len ∙ has.first
    ∙ ap (λ i. take i whole) (sym size) ∙ take-length whole
