use Rattle.nv_print.proofs.Words.{[], ◌∙◌, arith, entry_text, no_entry}
use Rattle.nv_print.proofs.NumberedLines.{next_line}
use Rattle.nv_print.proofs.PresentEntries.{text_present}
use Rattle.nv_print.proofs.logs.entries_text.Goals as goal

pub loop-index-preserved : goal.loop-index-preserved
loop-index-preserved c =
    next_line entry_text [] _ _ c.args.entries.now c.loop-index.index _ no_entry
    (omega (arith, c.present-index-end.ensures.within)) c.get.ensures c.loop-index.invariant c.in_ok-push_entry.ensures

pub returns : goal.returns
returns c =
    c.loop-index.invariant
    ∙ text_present c.args.entries.now c.present-index-end.result c.present-index-end.ensures.past c.loop-index.index
    (omega arith)
