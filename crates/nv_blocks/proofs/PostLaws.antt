-- The completion of each entry that is taken is posted.
use Rattle.std.proofs.Common.{◌≡◌, ◌∙◌, if◌then◌else◌, ℕ, ◌+◌, ◌≤◌, ap, arith, length, refl, sym, List, Result, Ok, Err}
use Rattle.std.proofs.lemmas.Bool.{eq-eqb}
use Rattle.nv_host.proofs.BytesLaws.{bytes_at-with_same}
use Rattle.nv_host.specs.Bytes.{bytes_at}
use Rattle.nv_layout.proofs.RecordLaws.{length-bytes_of_cqe}
use Rattle.nv_layout.specs.Cqe.{bytes_of_cqe}
use Rattle.nv_layout.specs.declared.cqe.Cqe.{Cqe}
use Rattle.nv_layout.specs.declared.sqe.Sqe.{Sqe}
use Rattle.nv_queue.specs.Rings.{PostNumbers, posted_one}
use Rattle.nv_queue.specs.Slots.{completion_place, put_as, with_completion}
use Rattle.nv_blocks.proofs.ExecutionLaws.{executed_length, sent_length}
use Rattle.nv_blocks.proofs.TurnLaws.{entry_ready}
use Rattle.nv_blocks.specs.Effect.{Effect, execution, sent}
use Rattle.nv_blocks.specs.Runs.{EveryCompletionIsPosted, answer_scene, turn_scene}
use Rattle.nv_blocks.specs.Turn.{Outcome, Scene, answer_of, answered_by, completion_for, entry_in, outcome_by}
use Rattle.nv_blocks.specs.Turn.{outcome_of, scene_by, taken_as, taken_by}
use Rattle.nv_blocks.specs.declared.answer.CommandResult.{CommandResult}
use Rattle.nv_blocks.specs.declared.refusal.Refusal.{Refusal}
use Rattle.nv_blocks.specs.declared.terms.Terms.{Terms}
use Rattle.nv_blocks.specs.declared.turns.Stop.{Stop}
use Rattle.nv_blocks.specs.declared.turns.Taken.{Taken}

-- the outcome of an entry keeps the length of the host's memory
outcome_length : (terms : Terms) (page_size : ℕ) (stored bytes : List ℕ) (e : Sqe) (found : Result Effect Refusal)
    → execution terms page_size stored bytes e ≡ found → length (outcome_by found stored bytes).bytes ≡ length bytes
outcome_length terms page_size stored bytes e (Ok done) is = executed_length terms page_size stored bytes e done is
outcome_length terms page_size stored bytes e (Err refusal) is = refl

-- so does the answer of a caller
answer_length : (page_size : ℕ) (command_result : CommandResult) (written stored bytes : List ℕ) (e : Sqe)
    (found : Result (List ℕ) Refusal)
    → sent page_size e written bytes ≡ found
    → length (answered_by found command_result stored bytes).bytes ≡ length bytes
answer_length page_size command_result written stored bytes e (Ok new) is = sent_length page_size e written bytes new is
answer_length page_size command_result written stored bytes e (Err refusal) is = refl

-- a completion that is written to the next slot is there
completion_there : (bytes : List ℕ) (ring : PostNumbers) (completion : Cqe)
    → completion_place ring.base ring.depth ring.posted + 16 ≤ length bytes
    → bytes_at (with_completion bytes ring completion) (completion_place ring.base ring.depth ring.posted) 16
    ≡ bytes_of_cqe (put_as ring completion)
completion_there bytes ring completion inside =
    let size = length-bytes_of_cqe (put_as ring completion) in
    bytes_at-with_same bytes (completion_place ring.base ring.depth ring.posted) 16
    (bytes_of_cqe (put_as ring completion)) (omega (arith, size)) (sym size)

-- the completion of an entry that was taken is in the next slot
taken_there : (found : Result Sqe Stop) (sqid : ℕ) (outcome : Sqe → Outcome) (x : Scene) (taken : Taken)
    → entry_in x ≡ found → ((e : Sqe) → length (outcome e).bytes ≡ length x.bytes)
    → taken_by found sqid outcome x ≡ Ok taken
    → (bytes_at (scene_by found sqid outcome x).bytes (completion_place x.post.base x.post.depth x.post.posted) 16
    ≡ bytes_of_cqe taken.completion) × ((scene_by found sqid outcome x).post ≡ posted_one x.post)
taken_there (Err stop) sqid outcome x taken next size is = absurd (cc)
taken_there (Ok e) sqid outcome x taken next size is =
    let same : taken_as sqid x.fetch x.post e (outcome e).command_result ≡ taken = cc in
    let ready = entry_ready x.fetch x.post x.bytes e next in (
      completion_there (outcome e).bytes x.post (completion_for sqid x.fetch e (outcome e).command_result)
          (omega (arith, ready.completion, size e))
          ∙ ap (λ (t : Taken). bytes_of_cqe t.completion) same,
      refl,
    )

-- the completion of each entry that is taken is posted
pub every_completion : EveryCompletionIsPosted
every_completion w cqid sqid terms command_result written taken =
    let x = turn_scene cqid terms w in
    let y = answer_scene cqid sqid w in (
      λ is. (let both = taken_there (entry_in x) terms.sqid (outcome_of terms w.page_size x.stored x.bytes) x taken refl
          (λ e. outcome_length terms w.page_size x.stored x.bytes e _ refl) is in
          record {
            slot = both.0;
            one = ap (λ t. if t then
                (scene_by (entry_in x) terms.sqid (outcome_of terms w.page_size x.stored x.bytes) x).post
                else w.completions cqid) (eq-eqb cqid cqid refl) ∙ both.1;
          }),
      λ is. (let both = taken_there (entry_in y) sqid (answer_of w.page_size command_result written y.stored y.bytes) y
          taken refl
          (λ e. answer_length w.page_size command_result written y.stored y.bytes e _ refl) is in
          record {
            slot = both.0;
            one = ap (λ t. if t then
                (scene_by (entry_in y) sqid (answer_of w.page_size command_result written y.stored y.bytes) y).post
                else w.completions cqid) (eq-eqb cqid cqid refl) ∙ both.1;
          }),
    )
