use Rattle.nv_subsystem.proofs.Words.{the_view, with_booked}
use Rattle.nv_subsystem.proofs.WithController.{controller_written}
use Rattle.nv_subsystem.proofs.subsystem.Subsystem.book.Goals as goal

pub returns-clause-state : goal.returns-clause-state
returns-clause-state c =
    controller_written c.args.self.now (the_view c.self.inside) c.self.inside.controllers.items
    c.args.ctrl _ c.book.new.self (with_booked c.args.nsid c.args.origin c.args.refusal)
    c.self.view_is c.requires c.index_mut-controller.ensures.value c.book.ensures.refusal.view
