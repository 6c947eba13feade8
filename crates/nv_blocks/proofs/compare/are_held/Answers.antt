use Rattle.std.proofs.Common.{◌∙◌, ◌<◌, ap, arith, get_or, length, sym}
use Rattle.std.proofs.lemmas.Grind.{common_steps}
use Rattle.nv_prp.proofs.CopyLaws.{lefts, none}
use Rattle.nv_blocks.proofs.CompareLaws.{next_held, next_spans}
use Rattle.nv_blocks.proofs.compare.are_held.Goals as goal

pub returns-then-not-holds : goal.returns-then-not-holds
returns-then-not-holds g c =
    let is = c.as_slice-span-items.ensures.spans in
    let below : c.loop-span.span-index < length c.args.spans.now = omega (arith, ap length is) in (
      λ never. absurd (cc),
      λ all. sym c.if-not-holds.true ∙ c.holds.ensures.1
          (next_held _ c.args.bytes.now c.args.spans.now _ c.loop-span.span-index c.loop-span.at _
          (ap (λ l. get_or l c.loop-span.span-index none) is) c.requires.inside below
          c.loop-span.invariant.left c.loop-span.invariant.same (omega arith) all),
    )

pub loop-span-preserved : goal.loop-span-preserved
loop-span-preserved g c =
    let is = c.as_slice-span-items.ensures.spans in
    let below : c.loop-span.span-index < length c.args.spans.now = omega (arith, ap length is) in
    let next = next_spans (g.M.PagedMemory.bytes c.args.mem.now) c.args.bytes.now c.args.spans.now _
    c.loop-span.span-index c.loop-span.at _
    (ap (λ l. get_or l c.loop-span.span-index none) is) c.requires.inside below
    c.loop-span.invariant.left c.loop-span.invariant.same (omega arith)
    (c.holds.ensures.0 c.if-not-holds.false) in
    record { left = next.0; same = next.1 }

pub returns : goal.returns
returns g c = grind (arith, common_steps, lefts)
