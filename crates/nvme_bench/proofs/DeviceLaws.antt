-- The controllers of a machine are those of its subsystem.
use Rattle.std.proofs.Common.{◌≡◌, ◌<◌, ℕ, ap, arith, length}
use Rattle.std.proofs.lemmas.List.{length-map}
use Rattle.nv_bus.specs.Bus.{IsBus}
use Rattle.nv_controller.specs.Machine.{MachineValue, bus_of}
use Rattle.nv_model.specs.State.{State}
use Rattle.nv_subsystem.specs.Tagged.{untagged_log}

-- a controller with registers in a machine that is a lawful bus is one of its subsystem
pub controller_within : (s : State) (m : MachineValue) (c : ℕ) → s ≡ m.state → IsBus (bus_of m) → c < length m.banks
    → c < length s.controllers
controller_within s m c same lawful within =
    omega (
      arith,
      within,
      lawful.banks,
      ap (λ (x : State). length x.controllers) same,
      length-map m.state.controllers untagged_log,
    )
