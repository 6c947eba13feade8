use Rattle.nv_file.proofs.defaults.thresholds_or.Goals as goal
use Rattle.nv_file.proofs.defaults.thresholds_or.Goals.{then-is_there, else-is_there}

pub returns-clause-sound : goal.returns-clause-sound
returns-clause-sound c =
    elim c.if-is_there.branch [
      | then-is_there w ↦ rw w.result-is w.nine.ensures.sound
      | else-is_there w ↦ rw w.result-is c.requires.default
    ]
