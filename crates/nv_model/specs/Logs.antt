-- Get Log Page: when it is refused, and what it returns.
use Rattle.std.specs.Prelude.{ℕ, ◌+◌, ◌-◌, ◌*◌, ◌%◌, ◌==◌, ◌||◌, not, nat_lt, Bool, List, [], ◌∷◌}
use Rattle.std.specs.Prelude.{◌++◌, length, replicate}
use Rattle.std.specs.Option.{option_map_or}
use Rattle.nv_layout.specs.ErrorEntry.{no_entry}
use Rattle.nv_layout.specs.declared.error_entry.ErrorEntry.{ErrorEntry}
use Rattle.nv_layout.specs.declared.smart.Smart.{Smart}
use Rattle.nv_command.specs.LogPage.{lid_of, log_asked}
use Rattle.nv_command.specs.Nsid.{broadcast_nsid}
use Rattle.nv_command.specs.declared.log_page.LogPage.{LogPage}
use Rattle.nv_command.specs.declared.log_page.LogPage.TheVariants.{ErrorInformation, Health}
use Rattle.nv_command.specs.declared.logs.LogQuery.{LogQuery}
use Rattle.nv_command.specs.declared.reply.Reply.{Reply}
use Rattle.nv_command.specs.declared.reply.Reply.TheVariants as reply
use Rattle.nv_command.specs.declared.status_code.StatusCode.TheVariants.{InvalidFieldInCommand, InvalidLogPage}
use Rattle.nv_model.specs.Conditions.{limit_of, row, Row}
use Rattle.nv_model.specs.State.{Controller, State, controller_at}
use Rattle.nv_model.specs.declared.smart_base.SmartBase.{SmartBase}

-- ---- refusals

-- a log page has the identifier
abbrev pub is_log : ℕ → Bool
is_log lid = lid_of (log_asked lid) == lid

-- how many entries the error log has: ELPE + 1
abbrev pub entry_count : State → ℕ → ℕ
entry_count s c = option_map_or (λ x. x.identity.numbers.elpe + 1) (controller_at s c) 1

-- the length of a log page in bytes
abbrev pub log_length : State → ℕ → LogPage → ℕ
log_length s c ErrorInformation = 64 * entry_count s c
log_length s c Health = 512

-- more bytes than the controller transfers at a time; another log; an NSID other than 0 and the
-- broadcast one; an offset past the end of the log, or inside a dword
abbrev pub log_rows : State → ℕ → LogQuery → List Row
log_rows s c q =
    row (nat_lt (limit_of s c) (4 * q.dwords)) InvalidFieldInCommand
    ∷ row (not (is_log q.lid)) InvalidLogPage
    ∷ row (not (q.nsid == 0 || q.nsid == broadcast_nsid)) InvalidFieldInCommand
    ∷ row (nat_lt (log_length s c (log_asked q.lid)) q.offset || not (q.offset % 4 == 0)) InvalidFieldInCommand
    ∷ []

-- ---- replies

-- the errors of a controller, newest first, followed by entries without an error up to ELPE + 1
abbrev pub errors_of : Controller → List ErrorEntry
errors_of x = x.log ++ replicate (x.identity.numbers.elpe + 1 - length x.log) no_entry

-- the health log: what the file says, and how many commands were refused
abbrev pub health_of : SmartBase → ℕ → Smart
health_of base refusals = record {
  critical_warning = base.critical_warning;
  temperature = base.temperature;
  avail_spare = base.avail_spare;
  spare_thresh = base.spare_thresh;
  percent_used = base.percent_used;
  data_units_read = base.counters.data_units_read;
  data_units_written = base.counters.data_units_written;
  host_read_commands = base.counters.host_read_commands;
  host_write_commands = base.counters.host_write_commands;
  controller_busy_time = base.counters.controller_busy_time;
  power_cycles = base.counters.power_cycles;
  power_on_hours = base.counters.power_on_hours;
  unsafe_shutdowns = base.counters.unsafe_shutdowns;
  media_errors = base.counters.media_errors;
  num_err_log_entries = refusals;
  warning_temp_time = base.warning_temp_time;
  critical_comp_time = base.critical_comp_time;
  sensors = base.sensors;
}

-- the health log of a controller
abbrev pub smart_of : Controller → Smart
smart_of x = health_of x.smart x.refusals

-- the health log of a file that says nothing about it
abbrev pub zero_smart : SmartBase
zero_smart = record {
  critical_warning = 0;
  temperature = 0;
  avail_spare = 0;
  spare_thresh = 0;
  percent_used = 0;
  counters = record {
    data_units_read = 0;
    data_units_written = 0;
    host_read_commands = 0;
    host_write_commands = 0;
    controller_busy_time = 0;
    power_cycles = 0;
    power_on_hours = 0;
    unsafe_shutdowns = 0;
    media_errors = 0;
  };
  warning_temp_time = 0;
  critical_comp_time = 0;
  sensors = replicate 8 0;
}

-- the health log of a controller that doesn't exist
abbrev pub no_health : Smart
no_health = health_of zero_smart 0

-- the error log of controller c; if it doesn't exist, one entry without an error
abbrev pub errors_at : State → ℕ → List ErrorEntry
errors_at s c = option_map_or errors_of (controller_at s c) (no_entry ∷ [])

-- the health log of controller c; if it doesn't exist, no_health
abbrev pub smart_at : State → ℕ → Smart
smart_at s c = option_map_or smart_of (controller_at s c) no_health

-- what brings a log page
abbrev pub log_reply : State → ℕ → LogPage → Reply
log_reply s c ErrorInformation = reply.Errors (errors_at s c)
log_reply s c Health = reply.Smart (smart_at s c)
