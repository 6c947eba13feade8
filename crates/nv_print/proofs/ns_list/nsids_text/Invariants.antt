use Rattle.nv_print.proofs.Words.{◌≡◌, nsids_text, string_bytes, take}
use Rattle.nv_print.proofs.ns_list.nsids_text.Given as goal

abbrev pub invariant-loop-index : goal.invariant-loop-index
invariant-loop-index l = string_bytes l.text ≡ nsids_text (take l.index l.nsids)
