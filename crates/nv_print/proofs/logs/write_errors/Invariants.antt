use Rattle.nv_print.proofs.Words.{Adds, error_tokens, flat_map, take}
use Rattle.nv_print.proofs.logs.write_errors.Given as goal

abbrev pub invariant-loop-index : goal.invariant-loop-index
invariant-loop-index l = Adds (flat_map error_tokens (take l.index l.entries)) l.fn.out l.out
