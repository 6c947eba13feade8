use Rattle.nv_print.proofs.Words.{arith, common_steps}
use Rattle.nv_print.proofs.Words.{filter, holds_error, object_of}
use Rattle.nv_print.specs.Records.{fields_of_entry}
use Rattle.nv_print.proofs.TokenLaws.{errors_are, list_ends}
use Rattle.nv_print.proofs.logs.write_entries.Goals as goal

pub returns : goal.returns
returns c =
    let entries = c.args.entries.now in
    let ends = list_ends (λ e. object_of (fields_of_entry e)) (filter holds_error entries) in
    grind (arith, common_steps, errors_are entries, ends)
