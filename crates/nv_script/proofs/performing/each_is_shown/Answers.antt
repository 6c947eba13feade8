use Rattle.nv_script.proofs.ShownLaws.{each_is_shown as all_shown}
use Rattle.nv_script.proofs.performing.each_is_shown.Goals as goal

pub returns : goal.returns
returns c = all_shown
