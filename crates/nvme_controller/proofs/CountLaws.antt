-- The counts of a controller that may not exist.
use Rattle.std.proofs.Common.{◌≡◌, ◌≤◌, ℕ, arith, length, refl}
use Rattle.std.proofs.lemmas.Option.{slice_get_past}
use Rattle.nv_bus.specs.Bus.{IsBus}
use Rattle.nv_controller.specs.Machine.{MachineValue, bus_of}
use Rattle.nv_controller.proofs.BusLaws.{controller_within, controllers_of}
use Rattle.nv_model.specs.LogEntry.{counts_of}
use Rattle.nv_model.specs.declared.command_counts.CommandCounts.{CommandCounts}

-- a controller that doesn't exist has the counts 0 and 0
pub no_counts : (m : MachineValue) (c : ℕ) → IsBus (bus_of m) → length m.banks ≤ c
    → ◌≡◌ {A = CommandCounts} (record { refusals = 0; commands = 0 }) (counts_of m.state c)
no_counts m c bus past =
    let more : length m.state.controllers ≤ c = omega (arith, controllers_of m bus) in
    grind (arith, slice_get_past)

pub ruleset counted = (controller_within, no_counts)
