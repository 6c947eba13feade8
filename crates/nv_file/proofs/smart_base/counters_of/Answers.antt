use Rattle.nv_file.proofs.smart_base.counters_of.Goals as goal

pub returns-clause-sound : goal.returns-clause-sound
returns-clause-sound c = record {
  data_units_read = c.in_ok-data_units_read.ensures.range.1;
  data_units_written = c.in_ok-data_units_written.ensures.range.1;
  host_read_commands = c.in_ok-host_read_commands.ensures.range.1;
  host_write_commands = c.in_ok-host_write_commands.ensures.range.1;
  controller_busy_time = c.in_ok-controller_busy_time.ensures.range.1;
  power_cycles = c.in_ok-power_cycles.ensures.range.1;
  power_on_hours = c.in_ok-power_on_hours.ensures.range.1;
  unsafe_shutdowns = c.in_ok-unsafe_shutdowns.ensures.range.1;
  media_errors = c.in_ok-media_errors.ensures.range.1;
}
