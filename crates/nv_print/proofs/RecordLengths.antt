-- How long the text and the JSON of a record are.
use Rattle.nv_print.proofs.Words.{◌*◌, ◌+◌, ◌≤◌, ErrorEntry, IdNs, Lbaf, arith, compact_text, fields_text, length}
use Rattle.nv_print.proofs.Words.{object_of}
use Rattle.nv_layout.specs.declared.id_ctrl.IdCtrl.{IdCtrl}
use Rattle.nv_layout.specs.declared.smart.Smart.{Smart}
use Rattle.nv_print.specs.Records.{fields_of_entry, fields_of_id_ctrl, fields_of_id_ns, fields_of_lbaf, fields_of_smart}
use Rattle.nv_print.specs.inner.Records.{texts_length}
use Rattle.nv_print.proofs.FieldLengths.{fields_text-length, fields_width, members_width, object_width}
use Rattle.nv_print.proofs.Lengths.{printable_length}

-- the text of a controller's Identify data has at most 5,000 bytes more than its texts
pub id_ctrl_text : (c : IdCtrl) → length (fields_text (fields_of_id_ctrl c)) ≤ 5000 + texts_length c
unfolding fields_of_id_ctrl
id_ctrl_text c = grind (arith, fields_text-length (fields_of_id_ctrl c), printable_length)

-- the JSON of a controller's Identify data has at most 5,000 bytes more than six times the length of its texts
pub id_ctrl_json : (c : IdCtrl) → length (compact_text (object_of (fields_of_id_ctrl c))) ≤ 5000 + 6 * texts_length c
unfolding fields_of_id_ctrl
id_ctrl_json c = grind (arith, object_width (fields_of_id_ctrl c), printable_length)

-- the text of a health log has at most 5,000 bytes
pub smart_text : (s : Smart) → length (fields_text (fields_of_smart s)) ≤ 5000
unfolding fields_of_smart
smart_text s = omega (arith, fields_text-length (fields_of_smart s))

-- the JSON of a health log has at most 10,000 bytes
pub smart_json : (s : Smart) → length (compact_text (object_of (fields_of_smart s))) ≤ 10000
unfolding fields_of_smart
smart_json s = omega (arith, object_width (fields_of_smart s))

-- the text of an error log entry's fields has at most 900 bytes
pub entry_text_length : (e : ErrorEntry) → length (fields_text (fields_of_entry e)) ≤ 900
unfolding fields_of_entry
entry_text_length e = omega (arith, fields_text-length (fields_of_entry e))

-- the JSON of an error log entry has at most 1,000 bytes
pub entry_json : (e : ErrorEntry) → length (compact_text (object_of (fields_of_entry e))) ≤ 1000
unfolding fields_of_entry
entry_json e = omega (arith, object_width (fields_of_entry e))

-- the fields of a format are at most 300 bytes wide
pub lbaf_width : (f : Lbaf) → fields_width (fields_of_lbaf f) ≤ 300
unfolding fields_of_lbaf
lbaf_width f = omega arith

-- the JSON of a format has at most 300 bytes
pub lbaf_json : (f : Lbaf) → length (compact_text (object_of (fields_of_lbaf f))) ≤ 300
unfolding fields_of_lbaf
lbaf_json f = omega (arith, object_width (fields_of_lbaf f))

-- the text of a namespace's fields has at most 5,000 bytes
pub id_ns_text : (r : IdNs) → length (fields_text (fields_of_id_ns r)) ≤ 5000
unfolding fields_of_id_ns
id_ns_text r = omega (arith, fields_text-length (fields_of_id_ns r))

-- the members of a namespace's fields are at most 5,000 bytes wide
pub id_ns_members : (r : IdNs) → members_width (fields_of_id_ns r) ≤ 5000
unfolding fields_of_id_ns
id_ns_members r = omega arith
