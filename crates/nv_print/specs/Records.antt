-- How each record is shown: a table of its fields.
use Rattle.std.specs.Prelude.{ℕ, ◌+◌, List, [], ◌∷◌, codes, ◌%◌, min, map, take, ◌==◌, ◌++◌, flat_map}
use Rattle.std.specs.Prelude.{if◌then◌else◌, Bool, not, filter, slice_index}
use Rattle.std.specs.Fmt.{decimal}
use Rattle.nv_layout.specs.declared.id_ctrl.IdCtrl.{IdCtrl}
use Rattle.nv_print.specs.Field.{Field, field, in_decimal, in_hexadecimal, wide, in_six_digits, as_text}
use Rattle.nv_print.specs.Field.{fields_text, members_of, object_of, shape_text, field_line}
use Rattle.nv_print.specs.Text.{printable, lines_of, right, hexadecimal}
use Rattle.serde_json.specs.Data.{Data, array, object, put, no_members, number, unsigned}
use Rattle.serde_json.specs.View.{items_of}
use Rattle.nv_layout.specs.declared.id_ns.IdNs.{IdNs}
use Rattle.nv_layout.specs.declared.id_ns.Lbaf.{Lbaf}
use Rattle.nv_layout.specs.Status.{number_of_status}
use Rattle.nv_layout.specs.declared.error_entry.ErrorEntry.{ErrorEntry}
use Rattle.nv_layout.specs.declared.smart.Smart.{Smart}

-- the fields of a controller's Identify data
unfoldable pub fields_of_id_ctrl : IdCtrl → List Field
fields_of_id_ctrl c =
    field (codes "vid") (in_hexadecimal c.vid)
    ∷ field (codes "ssvid") (in_hexadecimal c.ssvid)
    ∷ field (codes "sn") (as_text (printable c.sn))
    ∷ field (codes "mn") (as_text (printable c.mn))
    ∷ field (codes "fr") (as_text (printable c.fr))
    ∷ field (codes "rab") (in_decimal c.rab)
    ∷ field (codes "ieee") (in_six_digits c.ieee)
    ∷ field (codes "cmic") (in_hexadecimal c.cmic)
    ∷ field (codes "mdts") (in_decimal c.mdts)
    ∷ field (codes "cntlid") (in_hexadecimal c.cntlid)
    ∷ field (codes "ver") (in_hexadecimal c.ver)
    ∷ field (codes "oacs") (in_hexadecimal c.oacs)
    ∷ field (codes "frmw") (in_hexadecimal c.frmw)
    ∷ field (codes "lpa") (in_hexadecimal c.lpa)
    ∷ field (codes "elpe") (in_decimal c.elpe)
    ∷ field (codes "npss") (in_decimal c.npss)
    ∷ field (codes "wctemp") (in_decimal c.wctemp)
    ∷ field (codes "cctemp") (in_decimal c.cctemp)
    ∷ field (codes "tnvmcap") (wide c.tnvmcap)
    ∷ field (codes "unvmcap") (wide c.unvmcap)
    ∷ field (codes "sqes") (in_hexadecimal c.sqes)
    ∷ field (codes "cqes") (in_hexadecimal c.cqes)
    ∷ field (codes "nn") (in_decimal c.nn)
    ∷ field (codes "oncs") (in_hexadecimal c.oncs)
    ∷ field (codes "fna") (in_hexadecimal c.fna)
    ∷ field (codes "vwc") (in_hexadecimal c.vwc)
    ∷ field (codes "subnqn") (as_text (printable c.subnqn))
    ∷ []

-- a namespace before its formats
unfoldable pub fields_of_id_ns : IdNs → List Field
fields_of_id_ns r =
    field (codes "nsze") (in_hexadecimal r.nsze)
    ∷ field (codes "ncap") (in_hexadecimal r.ncap)
    ∷ field (codes "nuse") (in_hexadecimal r.nuse)
    ∷ field (codes "nsfeat") (in_hexadecimal r.nsfeat)
    ∷ field (codes "nlbaf") (in_decimal r.nlbaf)
    ∷ field (codes "flbas") (in_hexadecimal r.flbas)
    ∷ field (codes "mc") (in_hexadecimal r.mc)
    ∷ field (codes "dpc") (in_hexadecimal r.dpc)
    ∷ field (codes "dps") (in_hexadecimal r.dps)
    ∷ field (codes "nmic") (in_hexadecimal r.nmic)
    ∷ field (codes "nvmcap") (wide r.nvmcap)
    ∷ []

-- the fields of a format
unfoldable pub fields_of_lbaf : Lbaf → List Field
fields_of_lbaf f =
    field (codes "ms") (in_decimal f.ms)
    ∷ field (codes "lbads") (in_decimal f.lbads)
    ∷ field (codes "rp") (in_decimal f.rp)
    ∷ []

-- its formats: NLBAF + 1, but at most 16
abbrev pub formats_of : IdNs → List Lbaf
formats_of r = take (min r.nlbaf 15 + 1) r.lbafs

-- a field within a line: " lbads:9"
abbrev pub field_within : Field → List ℕ
field_within f = 32 ∷ (f.key ++ 58 ∷ shape_text f.shape)

-- the key of a format, with its index, at the left of 20 characters
abbrev pub lbaf_key : ℕ → List ℕ
lbaf_key i = codes "lbaf " ++ (right 2 (decimal i) ++ codes "             :")

-- the mark of the format in use
abbrev pub mark_of : ℕ → ℕ → List ℕ
mark_of in_use i = if in_use == i then codes " (in use)" else []

-- a format with its index: "lbaf  0             : ms:0 lbads:9 rp:0 (in use)"
abbrev pub lbaf_line : ℕ → ℕ → Lbaf → List ℕ
lbaf_line in_use i f =
    lbaf_key i ++ (flat_map field_within (fields_of_lbaf f) ++ (mark_of in_use i ++ 10 ∷ []))

-- the format in use is FLBAS 3:0
abbrev pub namespace_text : IdNs → List ℕ
namespace_text r =
    fields_text (fields_of_id_ns r) ++ lines_of (lbaf_line (r.flbas % 16)) 0 (formats_of r)

-- a namespace in JSON: its fields, and its formats under the key "lbafs"
abbrev pub namespace_data : IdNs → Data
namespace_data r =
    let formats = array (items_of (map (λ f. object_of (fields_of_lbaf f)) (formats_of r))) in
    object (put (codes "lbafs") formats (members_of (fields_of_id_ns r)))

-- the health log: the state of the controller, what it has done and what has happened to it, and
-- its temperatures
unfoldable pub fields_of_smart : Smart → List Field
fields_of_smart s =
    field (codes "critical_warning") (in_hexadecimal s.critical_warning)
    ∷ field (codes "temperature") (in_decimal s.temperature)
    ∷ field (codes "avail_spare") (in_decimal s.avail_spare)
    ∷ field (codes "spare_thresh") (in_decimal s.spare_thresh)
    ∷ field (codes "percent_used") (in_decimal s.percent_used)
    ∷ field (codes "data_units_read") (wide s.data_units_read)
    ∷ field (codes "data_units_written") (wide s.data_units_written)
    ∷ field (codes "host_read_commands") (wide s.host_read_commands)
    ∷ field (codes "host_write_commands") (wide s.host_write_commands)
    ∷ field (codes "controller_busy_time") (wide s.controller_busy_time)
    ∷ field (codes "power_cycles") (wide s.power_cycles)
    ∷ field (codes "power_on_hours") (wide s.power_on_hours)
    ∷ field (codes "unsafe_shutdowns") (wide s.unsafe_shutdowns)
    ∷ field (codes "media_errors") (wide s.media_errors)
    ∷ field (codes "num_err_log_entries") (wide s.num_err_log_entries)
    ∷ field (codes "warning_temp_time") (in_decimal s.warning_temp_time)
    ∷ field (codes "critical_comp_time") (in_decimal s.critical_comp_time)
    ∷ field (codes "temperature_sensor_1") (in_decimal (slice_index s.sensors 0))
    ∷ field (codes "temperature_sensor_2") (in_decimal (slice_index s.sensors 1))
    ∷ field (codes "temperature_sensor_3") (in_decimal (slice_index s.sensors 2))
    ∷ field (codes "temperature_sensor_4") (in_decimal (slice_index s.sensors 3))
    ∷ field (codes "temperature_sensor_5") (in_decimal (slice_index s.sensors 4))
    ∷ field (codes "temperature_sensor_6") (in_decimal (slice_index s.sensors 5))
    ∷ field (codes "temperature_sensor_7") (in_decimal (slice_index s.sensors 6))
    ∷ field (codes "temperature_sensor_8") (in_decimal (slice_index s.sensors 7))
    ∷ []

-- an entry of the error log, without its index
unfoldable pub fields_of_entry : ErrorEntry → List Field
fields_of_entry e =
    field (codes "error_count") (in_decimal e.count)
    ∷ field (codes "sqid") (in_decimal e.sqid)
    ∷ field (codes "cmdid") (in_hexadecimal e.cid)
    ∷ field (codes "status_field") (in_hexadecimal (number_of_status e.status))
    ∷ field (codes "parm_err_loc") (in_hexadecimal e.location)
    ∷ field (codes "lba") (in_hexadecimal e.lba)
    ∷ field (codes "nsid") (in_hexadecimal e.nsid)
    ∷ field (codes "vs") (in_hexadecimal e.vendor)
    ∷ field (codes "cs") (in_hexadecimal e.specific)
    ∷ []

-- an entry whose error count is 0 holds no error
abbrev pub holds_error : ErrorEntry → Bool
holds_error e = not (e.count == 0)

-- an entry with its index, if it holds an error
abbrev pub entry_text : ℕ → ErrorEntry → List ℕ
entry_text i e =
    if holds_error e
    then field_line (field (codes "entry") (in_decimal i)) ++ fields_text (fields_of_entry e)
    else []

-- the lines of an error log's entries
abbrev pub entries_text : List ErrorEntry → List ℕ
entries_text entries = lines_of entry_text 0 entries

-- an error log in JSON: the entries that hold an error, under the key "errors"
abbrev pub entries_data : List ErrorEntry → Data
entries_data entries =
    let objects = map (λ e. object_of (fields_of_entry e)) (filter holds_error entries) in
    object (put (codes "errors") (array (items_of objects)) no_members)

-- an NSID with its index: "[   0]:0x1"
abbrev pub nsid_line : ℕ → ℕ → List ℕ
nsid_line i nsid =
    codes "[" ++ (right 4 (decimal i) ++ (codes "]:" ++ (hexadecimal nsid ++ 10 ∷ [])))

-- the lines of a namespace list
abbrev pub nsids_text : List ℕ → List ℕ
nsids_text nsids = lines_of nsid_line 0 nsids

-- a namespace list in JSON: the numbers under the key "nsids"
abbrev pub nsids_data : List ℕ → Data
nsids_data nsids =
    let numbers = array (items_of (map (λ n. number (unsigned n)) nsids)) in
    object (put (codes "nsids") numbers no_members)
