use Rattle.std.proofs.Common.{◌∙◌, ◌+◌, ◌-◌, ◌≤◌, arith, length, sym}
use Rattle.std.proofs.lemmas.Grind.{common_steps}
use Rattle.nv_blocks.proofs.CompareLaws.{chunk_held, more_held, no_bytes}
use Rattle.nv_blocks.proofs.compare.holds.Goals as goal

pub loop-done-init : goal.loop-done-init
loop-done-init g c = record { within = omega arith; same = no_bytes _ _ }

pub returns-then-not-holds_chunk : goal.returns-then-not-holds_chunk
returns-then-not-holds_chunk g c =
    let within : c.loop-done.done + c.min.result ≤ length c.args.bytes.now = grind (arith, common_steps) in (
      λ never. absurd (cc),
      λ all. sym c.if-not-holds_chunk.true ∙ c.holds_chunk.ensures.1
          (chunk_held _ c.args.bytes.now c.args.address c.loop-done.done _ (omega arith) all),
    )

pub loop-done-preserved : goal.loop-done-preserved
loop-done-preserved g c =
    let within : c.loop-done.done + c.min.result ≤ length c.args.bytes.now = grind (arith, common_steps) in
    record {
      within = within;
      same = more_held _ _ _ _ c.min.result (c.loop-done.done + c.min.result - c.loop-done.done) within (omega arith)
          c.loop-done.invariant.same
          (c.holds_chunk.ensures.0 c.if-not-holds_chunk.false);
    }
