use Rattle.nv_print.proofs.Words.{◌++◌, ◌≡◌, field_within, flat_map, string_bytes, take}
use Rattle.nv_print.proofs.field.push_within.Given as goal

abbrev pub invariant-loop-field : goal.invariant-loop-field
invariant-loop-field l =
    string_bytes l.text ≡ string_bytes l.fn.text ++ flat_map field_within (take l.field-index l.fields)
