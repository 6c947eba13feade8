-- What is shown, as text and as JSON.
use Rattle.std.specs.Prelude.{ℕ, ◌+◌, ◌*◌, Bool, true, false, List, [], ◌∷◌, ◌++◌, codes, filter}
use Rattle.std.specs.Prelude.{length}
use Rattle.serde_json.specs.Data.{Data, null}
use Rattle.serde_json.specs.Written.{compact_text}
use Rattle.nv_print.specs.Devices.{devices_data, devices_text}
use Rattle.nv_print.specs.Field.{fields_text, object_of}
use Rattle.nv_print.specs.Records.{fields_of_id_ctrl}
use Rattle.nv_print.specs.Records.{namespace_data, namespace_text}
use Rattle.nv_print.specs.Records.{entries_data, entries_text, fields_of_smart, holds_error}
use Rattle.nv_print.specs.Records.{nsids_data, nsids_text}
use Rattle.nv_print.specs.Message.{feature_set, feature_value, reset_done, success_line}
use Rattle.nv_print.specs.declared.shown.Shown.{Shown}
use Rattle.nv_print.specs.declared.shown.Shown.TheVariants as shown

-- the text of what is shown
abbrev pub text_of : Shown → List ℕ
text_of (shown.Controller identity) = fields_text (fields_of_id_ctrl identity)
text_of (shown.Namespace namespace) = namespace_text namespace
text_of (shown.NsList nsids) = nsids_text nsids
text_of (shown.Smart smart) = fields_text (fields_of_smart smart)
text_of (shown.Errors entries) = entries_text entries
text_of (shown.Devices devices) = devices_text devices
text_of (shown.Created nsid) = success_line (codes "create-ns: Success, created nsid:") nsid
text_of (shown.Attached nsid) = success_line (codes "attach-ns: Success, nsid:") nsid
text_of (shown.Detached nsid) = success_line (codes "detach-ns: Success, nsid:") nsid
text_of (shown.Deleted nsid) = success_line (codes "delete-ns: Success, deleted nsid:") nsid
text_of (shown.Formatted nsid) = success_line (codes "format: Success, nsid:") nsid
text_of (shown.FeatureValue feature select value) = feature_value feature select value
text_of (shown.FeatureSet feature value save) = feature_set feature value save
text_of shown.Reset = reset_done

-- records and lists have a JSON form, and single lines have none
abbrev pub has_json : Shown → Bool
has_json (shown.Controller identity) = true
has_json (shown.Namespace namespace) = true
has_json (shown.NsList nsids) = true
has_json (shown.Smart smart) = true
has_json (shown.Errors entries) = true
has_json (shown.Devices devices) = true
has_json _ = false

-- the JSON value, or null if there is none
abbrev pub data_of : Shown → Data
data_of (shown.Controller identity) = object_of (fields_of_id_ctrl identity)
data_of (shown.Namespace namespace) = namespace_data namespace
data_of (shown.NsList nsids) = nsids_data nsids
data_of (shown.Smart smart) = object_of (fields_of_smart smart)
data_of (shown.Errors entries) = entries_data entries
data_of (shown.Devices devices) = devices_data devices
data_of _ = null

-- the JSON value's compact text, and a newline
abbrev pub json_of : Shown → List ℕ
json_of shown = compact_text (data_of shown) ++ 10 ∷ []

-- how many devices are shown
abbrev pub devices_shown : Shown → ℕ
devices_shown (shown.Devices devices) = length devices
devices_shown _ = 0

-- how many entries that hold an error are shown
abbrev pub entries_shown : Shown → ℕ
entries_shown (shown.Errors entries) = length (filter holds_error entries)
entries_shown _ = 0

-- the greatest length of a text or of JSON in bytes
abbrev pub text_limit : Shown → ℕ
text_limit shown = 65536 + 512 * devices_shown shown + 1024 * entries_shown shown
