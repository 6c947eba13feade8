use Rattle.std.proofs.Common.{rules}
use Rattle.nv_print.specs.Records.{fields_of_id_ctrl}
use Rattle.nv_print.proofs.Fields.{◌∷≡◌}
use Rattle.nv_print.proofs.identity.id_ctrl_fields.Goals as goal

pub returns-clause-value : goal.returns-clause-value
unfolding fields_of_id_ctrl
returns-clause-value c = search (rules, ◌∷≡◌) depth 60
