use Rattle.std.proofs.Common.{◌∙◌, ◌++◌, ap, arith}
use Rattle.nv_print.proofs.PresentEntries.{tokens_present}
use Rattle.nv_print.proofs.logs.write_errors.Goals as goal

pub returns : goal.returns
returns c =
    let present = c.present-index-end in
    let all =
    tokens_present c.args.entries.now present.result present.ensures.past c.loop-index.index (omega arith) in
    (c.loop-index.invariant.0, c.loop-index.invariant.1 ∙ ap (λ ts. c.args.out.now.tokens ++ ts) all)
