use Rattle.nv_model.proofs.ChangedAtLaws.{length-changed_at}
use Rattle.nv_model.proofs.StepLaws.{step_controllers}
use Rattle.nv_controller.proofs.Words.{untagged}
use Rattle.nv_controller.proofs.EntryLaws.{same_count}
use Rattle.nv_controller.proofs.entry.answer_entry.Goals as goal

pub returns-in-Ok-clause-controllers : goal.returns-in-Ok-clause-controllers
returns-in-Ok-clause-controllers g c =
    same_count c.args.subsystem.now c.execute.new.subsystem _ c.execute.ensures.state
    (step_controllers (untagged c.args.subsystem.now) c.args.ctrl c.in-Ok.command c.args.entry.now.cid)

pub returns-in-Err-clause-controllers : goal.returns-in-Err-clause-controllers
returns-in-Err-clause-controllers g c = simp (c.refuse.ensures.state, length-changed_at)
