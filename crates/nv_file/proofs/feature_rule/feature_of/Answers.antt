use Rattle.std.proofs.Common.{arith}
use Rattle.nv_file.proofs.Words.{common_steps}
use Rattle.nv_file.proofs.feature_rule.feature_of.Goals as goal

pub returns-clause-sound : goal.returns-clause-sound
returns-clause-sound c = record {
  lists = c.in_ok-defaults.ensures.lists;
  defaults = c.in_ok-defaults.ensures.sound;
  default = c.in_ok-defaults.ensures.values;
  saveable = grind (arith, common_steps);
}
