use Rattle.std.proofs.Common.{◌≡◌, None, Some, arith, slice_get}
use Rattle.std.proofs.lemmas.Option.{gets}
use Rattle.nv_file.proofs.Words.{common_steps}
use Rattle.nv_file.proofs.KeyLaws.{is_not_of_kind, is_there}
use Rattle.nv_file.proofs.namespace.format_at.Goals as goal

pub returns-in-Some-clause-exact : goal.returns-in-Some-clause-exact
returns-in-Some-clause-exact c =
    let at : slice_get c.args.formats.now c.args.index ≡ Some c.in-Some.format.now =
    grind (arith, common_steps, gets) in
    is_there _ _ _ _ at

pub returns-in-None-clause-exact : goal.returns-in-None-clause-exact
returns-in-None-clause-exact c =
    let none : slice_get c.args.formats.now c.args.index ≡ None = grind (arith, common_steps, gets) in
    is_not_of_kind _ _ none
