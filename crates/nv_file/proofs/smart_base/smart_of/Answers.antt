use Rattle.std.proofs.Common.{rules}
use Rattle.nv_file.proofs.smart_base.smart_of.Goals as goal

pub returns-clause-sound : goal.returns-clause-sound
returns-clause-sound c = record {
  critical_warning = c.in_ok-critical_warning.ensures.range.1;
  temperature = c.in_ok-temperature.ensures.range.1;
  avail_spare = c.in_ok-avail_spare.ensures.range.1;
  spare_thresh = c.in_ok-spare_thresh.ensures.range.1;
  percent_used = c.in_ok-percent_used.ensures.range.1;
  counters = c.in_ok-counters.ensures.sound;
  warning_temp_time = c.in_ok-warning_temp_time.ensures.range.1;
  critical_comp_time = c.in_ok-critical_comp_time.ensures.range.1;
  sensors = (search rules, c.eight.ensures.range);
}
