use Rattle.std.proofs.Common.{ap, rules}
use Rattle.nv_controller.proofs.Words.{MachineValue}
use Rattle.nv_controller.proofs.BusLaws.{is_bus, well_formed_bus}
use Rattle.nv_controller.proofs.machine.Machine.turn_with.Goals as goal

pub turn_bank-requires-clause-well_formed : goal.turn_bank-requires-clause-well_formed
turn_bank-requires-clause-well_formed g c =
    well_formed_bus c.self.inside.subsystem _ (ap (λ (m : MachineValue). m.state) c.self.view_is) c.requires.bus

pub returns-clause-bus : goal.returns-clause-bus
returns-clause-bus g c = is_bus _ c.turn_bank.ensures.well_formed (search rules)
