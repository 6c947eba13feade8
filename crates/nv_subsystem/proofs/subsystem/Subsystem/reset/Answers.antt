use Rattle.std.proofs.Common.{sym, subst}
use Rattle.nv_subsystem.proofs.Words.{IsWellFormed, reset_keeps, the_view, with_restored}
use Rattle.nv_subsystem.proofs.WithController.{controller_written}
use Rattle.nv_subsystem.proofs.subsystem.Subsystem.reset.Goals as goal

pub returns-clause-state : goal.returns-clause-state
returns-clause-state c =
    controller_written c.args.self.now (the_view c.self.inside) c.self.inside.controllers.items
    c.args.ctrl _ c.reset.new.self with_restored c.self.view_is c.requires
    c.index_mut-controller.ensures.value c.reset.ensures.view

pub returns-clause-well_formed : goal.returns-clause-well_formed
returns-clause-well_formed c w =
    subst IsWellFormed (sym (returns-clause-state c)) (reset_keeps c.args.self.now c.args.ctrl w)
