use Rattle.nv_driver.proofs.Words.{◌∙◌, after_commands, ap}
use Rattle.nv_driver.proofs.AdminLaws.{after_first}
use Rattle.nv_driver.proofs.driver.Driver.admin.Goals as goal

pub returns-clause-driver : goal.returns-clause-driver
returns-clause-driver g c =
    c.admin_all.ensures.driver ∙ ap (after_commands c.args.self.now c.args.ctrl) c.from_ref.ensures.len
    ∙ after_first c.args.self.now c.args.ctrl

pub returns-clause-steps : goal.returns-clause-steps
returns-clause-steps g c =
    rw c.from_ref.ensures.value at c.admin_all.ensures.steps
