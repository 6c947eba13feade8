use Rattle.nv_print.proofs.Words.{Adds, data_tokens, flat_map, object_of, take}
use Rattle.nv_print.specs.Records.{fields_of_lbaf}
use Rattle.nv_print.proofs.namespace.write_formats.Given as goal

abbrev pub invariant-loop-format : goal.invariant-loop-format
invariant-loop-format l =
    Adds (flat_map (λ f. data_tokens (object_of (fields_of_lbaf f))) (take l.format-index l.formats)) l.fn.out l.out
