use Rattle.nv_print.proofs.Words.{[], nsid_line, refl}
use Rattle.nv_print.proofs.NumberedLines.{next_line}
use Rattle.nv_print.proofs.ns_list.nsids_text.Goals as goal

pub loop-index-preserved : goal.loop-index-preserved
loop-index-preserved c =
    next_line nsid_line [] _ _ c.args.nsids.now c.loop-index.index _ 0 c.loop-index-test.true refl
    c.loop-index.invariant c.in_ok-push_nsid.ensures
