use Rattle.nv_print.proofs.Words.{Adds, field_tokens, flat_map, take}
use Rattle.nv_print.proofs.field.write_fields.Given as goal

abbrev pub invariant-loop-field : goal.invariant-loop-field
invariant-loop-field l = Adds (flat_map field_tokens (take l.field-index l.fields)) l.fn.out l.out
