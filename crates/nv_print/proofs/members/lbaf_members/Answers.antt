use Rattle.nv_print.specs.Records.{fields_of_lbaf}
use Rattle.nv_print.proofs.members.lbaf_members.Goals as goal

pub returns : goal.returns
unfolding fields_of_lbaf
returns c = cc
