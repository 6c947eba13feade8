-- Along every run the entries of a queue are completed once each and in order.
use Rattle.std.proofs.Common.{◌≡◌, ◌∙◌, ◌==◌, if◌then◌else◌, ℕ, ◌+◌, ◌-◌, ◌<◌, Bool, ap, arith}
use Rattle.std.proofs.Common.{inl, inr, length, length-append, refl, subst, sym, List, [], ◌∷◌, ◌++◌, get_or}
use Rattle.std.proofs.Common.{Result, Ok, Err}
use Rattle.std.proofs.lemmas.Bool.{cases_eq, cases_lt, eq-eqb, ne_eqb}
use Rattle.std.proofs.lemmas.List.{get_or-append_right, get_or_append_left}
use Rattle.nv_layout.specs.declared.sqe.Sqe.{Sqe}
use Rattle.nv_queue.proofs.KeptLaws.{kept_next, kept_zero, slot_kept}
use Rattle.nv_queue.specs.Numbers.{kept_number, next, slot_of}
use Rattle.nv_queue.specs.Rings.{FetchNumbers}
use Rattle.nv_blocks.specs.Runs.{Answered, Between, EveryQueueIsInOrder, Event, IsCompletionOf, KeepQueue, KeepsQueue}
use Rattle.nv_blocks.specs.Runs.{NewData, Turn, World, after, answer_scene, as_list, completed, put, taken_from}
use Rattle.nv_blocks.specs.Runs.{turn_scene}
use Rattle.nv_blocks.specs.Runs.{world_after}
use Rattle.nv_blocks.specs.Turn.{Outcome, Scene, answer_of, entry_in, outcome_of, scene_by, taken_by}
use Rattle.nv_blocks.specs.declared.turns.Stop.{Stop}
use Rattle.nv_blocks.specs.declared.turns.Taken.{Taken}

-- a queue has this depth, and the entries below number n were taken from it
pub record IsAt (d n : ℕ) (fetch : FetchNumbers) : Type 0 where
  pub depth : fetch.depth ≡ d
  pub number : fetch.fetched ≡ kept_number d n

-- these completions of queue q follow those before number n, and the queue is past them
pub record Follows (q depth n : ℕ) (done : List Taken) (last : FetchNumbers) : Type 0 where
  pub queue : IsAt depth (n + length done) last
  pub each : (k : ℕ) (other : Taken) → k < length done → IsCompletionOf q depth (n + k) (get_or done k other)

-- no completions follow any
none_follow : (q depth n : ℕ) (last : FetchNumbers) → IsAt depth n last → Follows q depth n [] last
none_follow q depth n last at = record {
  queue = (let P : ℕ → Type 0 = λ k. IsAt depth k last in
      let same : n ≡ n + 0 = omega arith in subst P same at);
  each = λ k other below. absurd (omega arith);
}

-- completions that follow others, followed by more, follow them
follow-append : (q depth n : ℕ) (first rest : List Taken) (mid last : FetchNumbers) → Follows q depth n first mid
    → Follows q depth (n + length first) rest last → Follows q depth n (first ++ rest) last
follow-append q depth n first rest mid last before after =
    let size = length-append first rest in
    record {
      queue = (let P : ℕ → Type 0 = λ k. IsAt depth k last in
          let same : n + length first + length rest ≡ n + length (first ++ rest) = omega (arith, size) in
          subst P same after.queue);
      each = λ k other below.
          elim (cases_lt k (length first)) [
            | inl in_first ↦
                subst (IsCompletionOf q depth (n + k)) (sym (get_or_append_left first rest other k in_first))
                (before.each k other in_first)
            | inr later ↦
                let P : ℕ → Type 0 = λ j. IsCompletionOf q depth j (get_or rest (k - length first) other) in
                let same : n + length first + (k - length first) ≡ n + k = omega arith in
                subst (IsCompletionOf q depth (n + k))
                (sym (get_or-append_right first rest (length first) k other refl later))
                (subst P same (after.each (k - length first) other (omega (arith, size))))
          ];
    }

-- ---- one event

-- what is taken from queue q follows what was taken before
taken_follows : (found : Result Sqe Stop) (q depth n : ℕ) (outcome : Sqe → Outcome) (x : Scene)
    → IsAt depth n x.fetch
    → Follows q depth n (as_list (taken_by found q outcome x)) (scene_by found q outcome x).fetch
taken_follows (Err stop) q depth n outcome x at = none_follow q depth n x.fetch at
taken_follows (Ok e) q depth n outcome x at =
    let number : next x.fetch.depth x.fetch.fetched ≡ kept_number depth (n + 1) =
    (λ i. next (at.depth i) (at.number i)) ∙ kept_next depth n in
    let head : slot_of x.fetch.depth (next x.fetch.depth x.fetch.fetched) ≡ slot_of depth (n + 1) =
    (λ i. slot_of (at.depth i) (number i)) ∙ slot_kept depth (n + 1) in
    record {
      queue = record { depth = at.depth; number = number };
      each = λ k other below.
          let first : k ≡ 0 = omega arith in
          let P : ℕ → Type 0 = λ j. IsCompletionOf q depth (n + j)
          (get_or (as_list (taken_by (Ok e) q outcome x)) j other) in
          let same : n + 0 ≡ n = omega arith in
          subst P (sym first) (record {
            cid = refl;
            queue = refl;
            head = head ∙ ap (λ j. slot_of depth (j + 1)) (sym same);
          });
    }

-- the queue that took an entry is queue q, or it is another one and queue q stays as it is
taken_or_not : (found : Result Sqe Stop) (sqid q depth n : ℕ) (outcome : Sqe → Outcome) (x : Scene)
    (submissions : ℕ → FetchNumbers) → x.fetch ≡ submissions sqid → IsAt depth n (submissions q)
    → Follows q depth n (if sqid == q then as_list (taken_by found sqid outcome x) else [])
    (put submissions sqid (scene_by found sqid outcome x).fetch q)
taken_or_not found sqid q depth n outcome x submissions own at = elim (cases_eq sqid q) [
  | inl same ↦
      let P : Bool → Type 0 = λ t. Follows q depth n (if t then as_list (taken_by found sqid outcome x) else [])
      (if t then (scene_by found sqid outcome x).fetch else submissions q) in
      let Q : ℕ → Type 0 = λ k. Follows q depth n (as_list (taken_by found k outcome x))
      (scene_by found k outcome x).fetch in
      let here : IsAt depth n x.fetch = subst (IsAt depth n) (sym (own ∙ ap submissions same)) at in
      subst P (sym (eq-eqb sqid q same)) (subst Q (sym same) (taken_follows found q depth n outcome x here))
  | inr other ↦
      let P : Bool → Type 0 = λ t. Follows q depth n (if t then as_list (taken_by found sqid outcome x) else [])
      (if t then (scene_by found sqid outcome x).fetch else submissions q) in
      subst P (sym (ne_eqb sqid q other)) (none_follow q depth n (submissions q) at)
]

-- what an event takes from queue q follows what was taken before
event_follows : (event : Event) (w : World) (q depth n : ℕ) → KeepsQueue q event w → IsAt depth n (w.submissions q)
    → Follows q depth n (taken_from q event w) ((after event w).submissions q)
event_follows (Turn cqid terms) w q depth n keeps at =
    let x = turn_scene cqid terms w in
    taken_or_not (entry_in x) terms.sqid q depth n
    (outcome_of terms w.page_size x.stored x.bytes) x w.submissions refl at
event_follows (Answered cqid sqid command_result written) w q depth n keeps at =
    let x = answer_scene cqid sqid w in
    taken_or_not (entry_in x) sqid q depth n
    (answer_of w.page_size command_result written x.stored x.bytes) x w.submissions refl at
event_follows (NewData nsid size blocks) w q depth n keeps at = none_follow q depth n (w.submissions q) at
event_follows (Between bytes submissions completions) w q depth n keeps at =
    none_follow q depth n (submissions q)
    (record { depth = keeps.0 ∙ at.depth; number = keeps.1 ∙ at.number })

-- what events take from queue q follows what was taken before
run_follows : (events : List Event) (w : World) (q depth n : ℕ) → KeepQueue q events w → IsAt depth n (w.submissions q)
    → Follows q depth n (completed q events w) ((world_after events w).submissions q)
run_follows [] w q depth n keep at = none_follow q depth n (w.submissions q) at
run_follows (event ∷ events) w q depth n keep at =
    let first = event_follows event w q depth n keep.0 at in
    follow-append q depth n (taken_from q event w) (completed q events (after event w)) _ _ first
    (run_follows events (after event w) q depth (n + length (taken_from q event w)) keep.1 first.queue)

-- ---- every run

-- each queue is answered in its own order
pub every_queue : EveryQueueIsInOrder
every_queue events w q new keep =
    let d = (w.submissions q).depth in
    let done = run_follows events w q d 0 keep
    (record { depth = refl; number = new ∙ sym (kept_zero d) }) in
    record { all = done.queue.number; each = done.each }
