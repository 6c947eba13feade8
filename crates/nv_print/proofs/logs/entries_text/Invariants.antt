use Rattle.nv_print.proofs.Words.{◌≡◌, entries_text, string_bytes, take}
use Rattle.nv_print.proofs.logs.entries_text.Given as goal

abbrev pub invariant-loop-index : goal.invariant-loop-index
invariant-loop-index l = string_bytes l.text ≡ entries_text (take l.index l.entries)
