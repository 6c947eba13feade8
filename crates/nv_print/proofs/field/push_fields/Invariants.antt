use Rattle.nv_print.proofs.Words.{◌++◌, ◌≡◌, fields_text, string_bytes, take}
use Rattle.nv_print.proofs.field.push_fields.Given as goal

abbrev pub invariant-loop-field : goal.invariant-loop-field
invariant-loop-field l = string_bytes l.text ≡ string_bytes l.fn.text ++ fields_text (take l.field-index l.fields)
