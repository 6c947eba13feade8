use Rattle.nv_print.proofs.Words.{lbaf_line, refl, string_bytes}
use Rattle.nv_print.proofs.NumberedLines.{next_line}
use Rattle.nv_print.proofs.namespace.push_formats.Goals as goal

pub loop-index-preserved : goal.loop-index-preserved
loop-index-preserved c =
    next_line (lbaf_line c.args.in_use) (string_bytes c.args.text.now) _ _ c.args.formats.now c.loop-index.index _
    (record { ms = 0; lbads = 0; rp = 0 }) c.loop-index-test.true refl c.loop-index.invariant
    c.in_ok-push_format.ensures
