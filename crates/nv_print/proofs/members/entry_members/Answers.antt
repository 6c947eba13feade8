use Rattle.nv_print.proofs.Words.{arith, common_steps}
use Rattle.nv_print.specs.Records.{fields_of_entry}
use Rattle.nv_print.proofs.members.entry_members.Goals as goal

pub returns : goal.returns
unfolding fields_of_entry
returns c = grind (arith, common_steps)
