use Rattle.nv_subsystem.proofs.Words.{changed_by, with_nsids}
use Rattle.nv_subsystem.proofs.EachController.{Changed}
use Rattle.nv_subsystem.proofs.attachment.change_each.Given as goal

abbrev pub invariant-loop-controller : goal.invariant-loop-controller
invariant-loop-controller l =
    Changed (with_nsids (changed_by l.change)) l.initial.controllers l.controllers l.controller-index
