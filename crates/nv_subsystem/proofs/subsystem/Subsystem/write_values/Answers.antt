use Rattle.nv_subsystem.proofs.Words.{the_view, with_values}
use Rattle.nv_subsystem.proofs.WithController.{controller_written}
use Rattle.nv_subsystem.proofs.subsystem.Subsystem.write_values.Goals as goal

pub returns : goal.returns
returns c =
    controller_written c.args.self.now (the_view c.self.inside) c.self.inside.controllers.items c.args.ctrl _
    c.write.new.self (with_values c.args.feature c.args.asked.value c.args.asked.save c.args.nsids.now)
    c.self.view_is c.requires c.index_mut-controller.ensures.value c.write.ensures.view
