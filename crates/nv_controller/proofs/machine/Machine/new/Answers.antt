use Rattle.std.proofs.Common.{◌∙◌, ap, length}
use Rattle.nv_controller.proofs.Words.{length-replicate, new_bank}
use Rattle.nv_controller.proofs.BusLaws.{is_bus}
use Rattle.nv_controller.proofs.machine.Machine.new.Goals as goal

pub returns-clause-bus : goal.returns-clause-bus
returns-clause-bus c w = is_bus _ w
    (ap length c.in_ok-banks.ensures ∙ length-replicate c.controllers.result new_bank ∙ c.controllers.ensures)
