-- The SMART / Health Information log by its offset table.
use Rattle.std.specs.Prelude.{◌≡◌, ℕ, ◌^◌, ◌<◌, List, [], ◌∷◌, length}
use Rattle.std.specs.List.{AllByRecursion}
use Rattle.nv_layout.specs.Parts.{Part, laid_out, number, number_at, numbers, numbers_at}
use Rattle.nv_layout.specs.declared.smart.Smart.{Smart}

-- the fields of the health log at their offsets
abbrev pub smart_parts : Smart → List Part
smart_parts r =
    number 0 1 r.critical_warning
    ∷ number 1 2 r.temperature
    ∷ number 3 1 r.avail_spare
    ∷ number 4 1 r.spare_thresh
    ∷ number 5 1 r.percent_used
    ∷ number 32 16 r.data_units_read
    ∷ number 48 16 r.data_units_written
    ∷ number 64 16 r.host_read_commands
    ∷ number 80 16 r.host_write_commands
    ∷ number 96 16 r.controller_busy_time
    ∷ number 112 16 r.power_cycles
    ∷ number 128 16 r.power_on_hours
    ∷ number 144 16 r.unsafe_shutdowns
    ∷ number 160 16 r.media_errors
    ∷ number 176 16 r.num_err_log_entries
    ∷ number 192 4 r.warning_temp_time
    ∷ number 196 4 r.critical_comp_time
    ∷ numbers 200 2 8 r.sensors
    ∷ []

-- a health log as 512 bytes
unfoldable pub bytes_of_smart : Smart → List ℕ
bytes_of_smart r = laid_out 512 (smart_parts r)

-- the health log in these bytes
unfoldable pub smart_of_bytes : List ℕ → Smart
smart_of_bytes bytes = record {
  critical_warning = number_at 0 1 bytes;
  temperature = number_at 1 2 bytes;
  avail_spare = number_at 3 1 bytes;
  spare_thresh = number_at 4 1 bytes;
  percent_used = number_at 5 1 bytes;
  data_units_read = number_at 32 16 bytes;
  data_units_written = number_at 48 16 bytes;
  host_read_commands = number_at 64 16 bytes;
  host_write_commands = number_at 80 16 bytes;
  controller_busy_time = number_at 96 16 bytes;
  power_cycles = number_at 112 16 bytes;
  power_on_hours = number_at 128 16 bytes;
  unsafe_shutdowns = number_at 144 16 bytes;
  media_errors = number_at 160 16 bytes;
  num_err_log_entries = number_at 176 16 bytes;
  warning_temp_time = number_at 192 4 bytes;
  critical_comp_time = number_at 196 4 bytes;
  sensors = numbers_at 200 2 8 bytes;
}

-- each field fits its bits
pub record SmartFits (r : Smart) : Type 0 where
  pub critical_warning : r.critical_warning < 2 ^ 8
  pub temperature : r.temperature < 2 ^ 16
  pub avail_spare : r.avail_spare < 2 ^ 8
  pub spare_thresh : r.spare_thresh < 2 ^ 8
  pub percent_used : r.percent_used < 2 ^ 8
  pub data_units_read : r.data_units_read < 2 ^ 128
  pub data_units_written : r.data_units_written < 2 ^ 128
  pub host_read_commands : r.host_read_commands < 2 ^ 128
  pub host_write_commands : r.host_write_commands < 2 ^ 128
  pub controller_busy_time : r.controller_busy_time < 2 ^ 128
  pub power_cycles : r.power_cycles < 2 ^ 128
  pub power_on_hours : r.power_on_hours < 2 ^ 128
  pub unsafe_shutdowns : r.unsafe_shutdowns < 2 ^ 128
  pub media_errors : r.media_errors < 2 ^ 128
  pub num_err_log_entries : r.num_err_log_entries < 2 ^ 128
  pub warning_temp_time : r.warning_temp_time < 2 ^ 32
  pub critical_comp_time : r.critical_comp_time < 2 ^ 32
  pub sensor_count : length r.sensors ≡ 8
  pub each_sensor : AllByRecursion (λ x. x < 2 ^ 16) r.sensors

-- a health log whose fields fit is read back from its bytes
abbrev pub SmartReadsBack : Type 0
SmartReadsBack = (r : Smart) → SmartFits r → smart_of_bytes (bytes_of_smart r) ≡ r
