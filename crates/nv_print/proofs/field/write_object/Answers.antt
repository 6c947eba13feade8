use Rattle.nv_print.proofs.Words.{arith, common_steps}
use Rattle.nv_print.proofs.Words.{no_members}
use Rattle.nv_print.proofs.TokenLaws.{fields_before}
use Rattle.nv_print.proofs.field.write_object.Goals as goal

pub returns : goal.returns
returns c = grind (arith, common_steps, fields_before c.args.fields.now no_members)
