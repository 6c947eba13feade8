use Rattle.std.proofs.Common.{arith}
use Rattle.nv_subsystem.proofs.Words.{changed_by, with_nsids}
use Rattle.nv_subsystem.proofs.EachController.{one_more}
use Rattle.nv_subsystem.proofs.attachment.change_each.Goals as goal

pub change-requires : goal.change-requires
change-requires c = (
  c.requires.0,
  c.loop-controller.invariant.sized c.requires.0 c.requires.1 c.loop-controller.controller-index
      c.controller-item.result (omega arith),
  c.requires.2,
)

pub loop-controller-preserved : goal.loop-controller-preserved
loop-controller-preserved c =
    one_more (with_nsids (changed_by c.args.change)) c.args.controllers.now c.loop-controller.controllers
    c.loop-controller.controller-index c.loop-controller.invariant c.controller-item.result (omega arith)
    c.change.new.self c.change.ensures
