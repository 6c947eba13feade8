use Rattle.nv_subsystem.proofs.Words.{controller_view, next_count, the_view}
use Rattle.nv_subsystem.proofs.WithController.{controller_written}
use Rattle.nv_subsystem.proofs.subsystem.Subsystem.count.Goals as goal

pub returns : goal.returns
returns c =
    controller_written c.args.self.now (the_view c.self.inside) c.self.inside.controllers.items
    c.args.ctrl _ _ (λ x. record x { commands = next_count x.commands })
    c.self.view_is c.requires c.index_mut-controller.ensures.value
    (λ i. record (controller_view c.index_mut-controller.result.now) {
      commands = c.saturating_add-controller.ensures i;
    })
