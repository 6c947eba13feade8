-- The tables of a file: for each the checks of its keys in their order, and what it holds if
-- none of them fails. `m` are the members of the table.
use Rattle.std.specs.Prelude.{ℕ, ◌^◌, Bool, true, false, not, ◌&&◌, ◌||◌, List, [], ◌∷◌, ◌++◌, map, Option, is_some}
use Rattle.std.specs.Prelude.{◌==◌, slice_get, slice_index, length, if◌then◌else◌}
use Rattle.std.specs.List.{list_all}
use Rattle.std.specs.Option.{option_map_or}
use Rattle.toml.specs.Data.{Members, as_table}
use Rattle.nv_layout.specs.Feature as feature
use Rattle.nv_model.specs.declared.format.Format.{Format}
use Rattle.nv_model.specs.declared.defaults.Defaults.{Defaults}
use Rattle.nv_model.specs.declared.defaults.Defaults.TheVariants.{One, Thresholds}
use Rattle.nv_model.specs.declared.feature_rule.FeatureRule.{FeatureRule}
use Rattle.nv_model.specs.declared.identity.IdentityNumbers.{IdentityNumbers}
use Rattle.nv_model.specs.declared.smart_base.Counters.{Counters}
use Rattle.nv_model.specs.declared.smart_base.SmartBase.{SmartBase}
use Rattle.nv_model.specs.Conditions.{may_extend}
use Rattle.nv_model.specs.State.{Identity}
use Rattle.nv_model.specs.Ranges.{greatest_integer}
use Rattle.nv_file.specs.declared.table_name.TableName.TheVariants as table
use Rattle.nv_file.specs.declared.key.Key.{Key}
use Rattle.nv_file.specs.declared.key.Key.TheVariants as key
use Rattle.nv_file.specs.Check.{Check}
use Rattle.nv_file.specs.FileValue.{ControllerValue, NamespaceValue}
use Rattle.nv_file.specs.KeyChecks.{has_key, integer, optional_integer, optional_integers, text, flag, optional_list}
use Rattle.nv_file.specs.KeyChecks.{of_kind, in_limits, is_within, not_repeated, no_other, each, as_tables, as_integers}
use Rattle.nv_file.specs.KeyChecks.{number, number_at, text_at, flag_at, integers_at, tables_at, table_at}
use Rattle.nv_file.specs.Names.{keys_of, feature_keys}

-- ---- a format

-- the checks of a format
unfoldable pub format_checks : Members → List Check
format_checks m =
    integer table.Format key.Lbads 9 16 m
    ++ optional_integer table.Format key.Ms 0 65535 m
    ++ optional_integer table.Format key.Rp 0 3 m
    ++ no_other table.Format (keys_of table.Format) m

-- the format that a table holds
unfoldable pub format_value : Members → Format
format_value m = record {
  lbads = number_at key.Lbads 0 m;
  ms = number_at key.Ms 0 m;
  rp = number_at key.Rp 0 m;
}

-- ---- a feature

-- the identifier of a feature
abbrev pub fid_of : Members → ℕ
fid_of m = number_at key.Fid 0 m

-- whether a value of the feature can be saved
abbrev pub is_saveable : Members → Bool
is_saveable m = flag_at key.Saveable false m

-- `default` is a value of the feature; Temperature Threshold has none
abbrev pub is_default : Members → Bool
is_default m =
    let value = number_at key.Default 0 m in
    option_map_or (λ f. feature.is_value f value) (feature.feature_of (fid_of m)) false
    && not ((fid_of m == 0x04) && has_key key.Default m)

-- `over` and `under` are nine thresholds; only Temperature Threshold may have them
unfoldable pub thresholds : Key → Members → List Check
thresholds k m =
    let zs = integers_at k m in
    of_kind table.Feature k as_integers m
    ++ in_limits table.Feature k (not (has_key k m) || ((fid_of m == 0x04) && (length zs == 9)))
    ++ in_limits table.Feature k (list_all (is_within 0 65535) zs)

-- the checks of the defaults by the version of the file; version 1 has no thresholds
unfoldable pub defaults_checks : ℕ → Members → List Check
defaults_checks version m =
    if version == 1 then [] else thresholds key.Over m ++ thresholds key.Under m

-- the keys before the lists of thresholds
abbrev pub first_feature_checks : ℕ → List ℕ → Members → List Check
first_feature_checks version before m =
    integer table.Feature key.Fid 0 255 m
    ++ in_limits table.Feature key.Fid (is_some (feature.feature_of (fid_of m)))
    ++ in_limits table.Feature key.Fid (not ((version == 1) && (fid_of m == 0x04)))
    ++ not_repeated table.Feature key.Fid before (fid_of m)
    ++ optional_integer table.Feature key.Default 0 4294967295 m
    ++ in_limits table.Feature key.Default (is_default m)
    ++ flag table.Feature key.Saveable m
    ++ in_limits table.Feature key.Saveable (not (is_saveable m && (fid_of m == 0x05)))
    ++ flag table.Feature key.Changeable m

-- the checks of a feature, with the identifiers of the features before it
unfoldable pub feature_checks : ℕ → List ℕ → Members → List Check
feature_checks version before m =
    first_feature_checks version before m
    ++ defaults_checks version m
    ++ no_other table.Feature (feature_keys version) m

-- nine numbers, which are 0 past the end of the list
abbrev pub nine : List ℕ → List ℕ
nine numbers = map (slice_index numbers) (0 ∷ 1 ∷ 2 ∷ 3 ∷ 4 ∷ 5 ∷ 6 ∷ 7 ∷ 8 ∷ [])

-- the thresholds over temperatures if the file has none: wctemp for the first one, and 65,535 for the others
abbrev pub default_over : ℕ → List ℕ
default_over wctemp =
    wctemp ∷ 65535 ∷ 65535 ∷ 65535 ∷ 65535 ∷ 65535 ∷ 65535 ∷ 65535 ∷ 65535 ∷ []

-- the thresholds at a key, or the default
unfoldable pub thresholds_at : Key → List ℕ → Members → List ℕ
thresholds_at k default m =
    if has_key k m then nine (map number (integers_at k m)) else default

-- the defaults of a feature by the wctemp of the controller
unfoldable pub defaults_value : ℕ → Members → Defaults
defaults_value wctemp m =
    if fid_of m == 0x04
    then Thresholds (thresholds_at key.Over (default_over wctemp) m)
    (thresholds_at key.Under (nine []) m)
    else One (number_at key.Default 0 m)

-- the rule of a feature that a table holds
unfoldable pub feature_value : ℕ → Members → FeatureRule
feature_value wctemp m = record {
  fid = fid_of m;
  defaults = defaults_value wctemp m;
  saveable = is_saveable m;
  changeable = flag_at key.Changeable true m;
}

-- ---- a health log

-- the keys of the bytes of a health log
abbrev pub byte_keys : List Key
byte_keys = key.CriticalWarning ∷ key.AvailSpare ∷ key.SpareThresh ∷ key.PercentUsed ∷ []

-- the keys of the counters of a health log
abbrev pub counter_keys : List Key
counter_keys =
    key.DataUnitsRead ∷ key.DataUnitsWritten ∷ key.HostReadCommands ∷ key.HostWriteCommands ∷
    key.ControllerBusyTime ∷ key.PowerCycles ∷ key.PowerOnHours ∷ key.UnsafeShutdowns ∷
    key.MediaErrors ∷ []

-- the checks of the counters of a health log
unfoldable pub counters_checks : Members → List Check
counters_checks m = optional_integers table.Smart counter_keys 0 greatest_integer m

-- the keys before the list of sensors
abbrev pub first_smart_checks : Members → List Check
first_smart_checks m =
    optional_integers table.Smart byte_keys 0 255 m
    ++ optional_integer table.Smart key.Temperature 0 65535 m
    ++ counters_checks m
    ++ optional_integers table.Smart (key.WarningTempTime ∷ key.CriticalCompTime ∷ []) 0 4294967295 m

-- the checks of a health log
unfoldable pub smart_checks : Members → List Check
smart_checks m =
    first_smart_checks m
    ++ optional_list table.Smart key.Sensors 8 65535 m
    ++ no_other table.Smart (keys_of table.Smart) m

-- the eight sensors, which are 0 past the end of the list
abbrev pub eight : List ℕ → List ℕ
eight numbers = map (slice_index numbers) (0 ∷ 1 ∷ 2 ∷ 3 ∷ 4 ∷ 5 ∷ 6 ∷ 7 ∷ [])

-- the counters that a table holds
unfoldable pub counters_value : Members → Counters
counters_value m = record {
  data_units_read = number_at key.DataUnitsRead 0 m;
  data_units_written = number_at key.DataUnitsWritten 0 m;
  host_read_commands = number_at key.HostReadCommands 0 m;
  host_write_commands = number_at key.HostWriteCommands 0 m;
  controller_busy_time = number_at key.ControllerBusyTime 0 m;
  power_cycles = number_at key.PowerCycles 0 m;
  power_on_hours = number_at key.PowerOnHours 0 m;
  unsafe_shutdowns = number_at key.UnsafeShutdowns 0 m;
  media_errors = number_at key.MediaErrors 0 m;
}

-- the health log that a table holds
unfoldable pub smart_value : Members → SmartBase
smart_value m = record {
  critical_warning = number_at key.CriticalWarning 0 m;
  temperature = number_at key.Temperature 0 m;
  avail_spare = number_at key.AvailSpare 0 m;
  spare_thresh = number_at key.SpareThresh 0 m;
  percent_used = number_at key.PercentUsed 0 m;
  counters = counters_value m;
  warning_temp_time = number_at key.WarningTempTime 0 m;
  critical_comp_time = number_at key.CriticalCompTime 0 m;
  sensors = eight (map number (integers_at key.Sensors m));
}

-- ---- a controller: its own table, then its features, then its health log

-- the identifier of a controller
abbrev pub cntlid_of : Members → ℕ
cntlid_of m = number_at key.Cntlid 0 m

-- the checks of the numbers of a controller's identity
unfoldable pub numbers_checks : Members → List Check
numbers_checks m =
    optional_integers table.Controller (key.Vid ∷ key.Ssvid ∷ []) 0 65535 m
    ++ optional_integer table.Controller key.Rab 0 255 m
    ++ optional_integer table.Controller key.Ieee 0 16777215 m
    ++ optional_integer table.Controller key.Mdts 2 8 m
    ++ optional_integer table.Controller key.Elpe 0 255 m
    ++ optional_integers table.Controller (key.Wctemp ∷ key.Cctemp ∷ []) 0 65535 m
    ++ optional_integer table.Controller key.Vwc 0 7 m

-- the keys up to the first text
abbrev pub first_identity_checks : List ℕ → Members → List Check
first_identity_checks before m =
    integer table.Controller key.Cntlid 0 65519 m
    ++ not_repeated table.Controller key.Cntlid before (cntlid_of m)
    ++ text table.Controller key.Sn 20 m

-- the checks of a controller's identity, with the identifiers of the controllers before it
unfoldable pub identity_checks : List ℕ → Members → List Check
identity_checks before m =
    first_identity_checks before m
    ++ text table.Controller key.Mn 40 m
    ++ text table.Controller key.Fr 8 m
    ++ numbers_checks m
    ++ flag table.Controller key.CryptoErase m

-- the numbers of a controller's identity that a table holds
unfoldable pub numbers_value : Members → IdentityNumbers
numbers_value m = record {
  vid = number_at key.Vid 0 m;
  ssvid = number_at key.Ssvid 0 m;
  rab = number_at key.Rab 0 m;
  ieee = number_at key.Ieee 0 m;
  mdts = number_at key.Mdts 5 m;
  elpe = number_at key.Elpe 63 m;
  wctemp = number_at key.Wctemp 343 m;
  cctemp = number_at key.Cctemp 353 m;
  vwc = number_at key.Vwc 0 m;
}

-- the identity of a controller that a table holds
unfoldable pub identity_value : Members → Identity
identity_value m = record {
  cntlid = cntlid_of m;
  sn = text_at key.Sn m;
  mn = text_at key.Mn m;
  fr = text_at key.Fr m;
  numbers = numbers_value m;
  crypto_erase = flag_at key.CryptoErase false m;
}

-- the checks of a controller: its own table, its features, and its health log
unfoldable pub controller_checks : ℕ → List ℕ → Members → List Check
controller_checks version before m =
    identity_checks before m
    ++ of_kind table.Controller key.Feature as_tables m
    ++ of_kind table.Controller key.Smart as_table m
    ++ no_other table.Controller (keys_of table.Controller) m
    ++ each fid_of (feature_checks version) [] (tables_at key.Feature m)
    ++ smart_checks (table_at key.Smart m)

-- the controller that a table holds
unfoldable pub controller_value : Members → ControllerValue
controller_value m = record {
  identity = identity_value m;
  rules = map (feature_value (number_at key.Wctemp 343 m)) (tables_at key.Feature m);
  smart = smart_value (table_at key.Smart m);
}

-- ---- a namespace, in a subsystem with nn, mc and the formats

-- the NSID of a namespace
abbrev pub nsid_of : Members → ℕ
nsid_of m = number_at key.Nsid 0 m

-- the format in use
abbrev pub format_of : List Format → Members → Option Format
format_of formats m = slice_get formats (number_at key.Format 0 m)

-- the size of a logical block in the format in use
abbrev pub block_size : List Format → Members → ℕ
block_size formats m = option_map_or (λ f. 2 ^ f.lbads) (format_of formats m) 0

-- whether metadata is at the end of each logical block
abbrev pub is_extended : Members → Bool
is_extended m = flag_at key.Extended false m

-- extended only if the format in use and mc allow it
abbrev pub can_extend : ℕ → List Format → Members → Bool
can_extend mc formats m =
    option_map_or (λ f. may_extend mc f (is_extended m)) (format_of formats m) false

-- the keys before the list of controllers
abbrev pub first_namespace_checks : ℕ → ℕ → List Format → List ℕ → Members → List Check
first_namespace_checks nn mc formats before m =
    integer table.Namespace key.Nsid 1 nn m
    ++ not_repeated table.Namespace key.Nsid before (nsid_of m)
    ++ integer table.Namespace key.Format 0 15 m
    ++ in_limits table.Namespace key.Format (is_some (format_of formats m))
    ++ integer table.Namespace key.Bytes (block_size formats m) greatest_integer m
    ++ flag table.Namespace key.Extended m
    ++ in_limits table.Namespace key.Extended (can_extend mc formats m)
    ++ flag table.Namespace key.Shared m

-- the checks of a namespace, with the NSIDs of the namespaces before it
unfoldable pub namespace_checks : ℕ → ℕ → List Format → List ℕ → Members → List Check
namespace_checks nn mc formats before m =
    first_namespace_checks nn mc formats before m
    ++ of_kind table.Namespace key.Controllers as_integers m
    ++ no_other table.Namespace (keys_of table.Namespace) m

-- the namespace that a table holds
unfoldable pub namespace_value : Members → NamespaceValue
namespace_value m = record {
  nsid = nsid_of m;
  namespace = record {
    capacity = number_at key.Bytes 0 m;
    format = number_at key.Format 0 m;
    extended = is_extended m;
    shared = flag_at key.Shared false m;
  };
  controllers = integers_at key.Controllers m;
}
