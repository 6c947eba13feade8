-- What bounds the text and the JSON of what is shown.
use Rattle.nv_print.proofs.Words.{length-append}
use Rattle.nv_print.proofs.Lengths.{decimal_length}
use Rattle.nv_print.proofs.ListLengths.{entries_json_length, entries_text_length, namespace_json_length}
use Rattle.nv_print.proofs.ListLengths.{namespace_text_length, nsids_json_length, nsids_text_length}
use Rattle.nv_print.proofs.RecordLengths.{id_ctrl_json, id_ctrl_text, smart_json, smart_text}
use Rattle.nv_print.proofs.SentenceLengths.{feature_set_length, feature_value_length}

pub ruleset text_bounds = (
  id_ctrl_text,
  namespace_text_length,
  nsids_text_length,
  smart_text,
  entries_text_length,
  decimal_length,
  feature_value_length,
  feature_set_length,
  length-append,
)

pub ruleset json_bounds = (id_ctrl_json, namespace_json_length, nsids_json_length, smart_json, entries_json_length)
