-- How long the line of a command without a record is.
use Rattle.nv_print.proofs.Words.{ℕ, ◌+◌, ◌≤◌, Bool, List, arith, common_steps, length, length-append}
use Rattle.nv_layout.specs.Feature.{row_of}
use Rattle.nv_layout.specs.declared.feature.Feature.{Feature}
use Rattle.nv_print.specs.Message.{feature_set, feature_text, feature_value, select_text, success_line}
use Rattle.nv_print.specs.declared.select.Select.{Select}
use Rattle.nv_print.proofs.Lengths.{decimal_length, hexadecimal_length}
use Rattle.nv_layout.specs.declared.feature.Feature.TheVariants as feature
use Rattle.nv_print.specs.declared.select.Select.TheVariants as select

-- the line of a success is at most 65 bytes longer than its words
pub success_length : (words : List ℕ) (nsid : ℕ) → length (success_line words nsid) ≤ length words + 65
success_length words nsid = grind (arith, common_steps, decimal_length, length-append)

-- the name of a feature has at most 100 bytes
name_length : (f : Feature) → length (row_of f).name ≤ 100
name_length feature.Arbitration = omega arith
name_length _ = omega arith

-- the text of a feature has at most 200 bytes
feature_text_length : (f : Feature) → length (feature_text f) ≤ 200
feature_text_length f = grind (arith, common_steps, name_length, hexadecimal_length, length-append)

-- the text of a select has at most 30 bytes
select_length : (s : Select) → length (select_text s) ≤ 30
select_length select.Current = omega arith
select_length _ = omega arith

-- the line of a feature's value has at most 400 bytes
pub feature_value_length : (f : Feature) (s : Select) (value : ℕ) → length (feature_value f s value) ≤ 400
feature_value_length f s value =
    grind (arith, common_steps, feature_text_length, select_length, hexadecimal_length, length-append)

-- the line of a feature's setting has at most 400 bytes
pub feature_set_length : (f : Feature) (value : ℕ) (save : Bool) → length (feature_set f value save) ≤ 400
feature_set_length f value save =
    grind (arith, common_steps, feature_text_length, hexadecimal_length, decimal_length, length-append)
