use Rattle.nv_print.proofs.Words.{◌++◌, ◌≡◌, lbaf_line, lines_of, string_bytes, take}
use Rattle.nv_print.proofs.namespace.push_formats.Given as goal

abbrev pub invariant-loop-index : goal.invariant-loop-index
invariant-loop-index l =
    string_bytes l.text ≡ string_bytes l.fn.text ++ lines_of (lbaf_line l.in_use) 0 (take l.index l.formats)
