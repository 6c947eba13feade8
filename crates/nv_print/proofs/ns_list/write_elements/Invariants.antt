use Rattle.nv_print.proofs.Words.{Adds, data_tokens, flat_map, number, take, unsigned}
use Rattle.nv_print.proofs.ns_list.write_elements.Given as goal

abbrev pub invariant-loop-nsid : goal.invariant-loop-nsid
invariant-loop-nsid l =
    Adds (flat_map (λ n. data_tokens (number (unsigned n))) (take l.nsid-index l.nsids)) l.fn.out l.out
