-- A subsystem and its registers as a bus, which doesn't show phase tags.
use Rattle.std.proofs.Common.{◌≡◌, ◌∙◌, ◌<◌, ℕ, Bool, true, false, ap, arith, length, refl, sym}
use Rattle.nv_model.proofs.ResetLaws.{length-reset}
use Rattle.nv_controller.proofs.Words.{bus_of, if◌then◌else◌, IsBus, IsWellFormed, length-map, MachineValue, reset}
use Rattle.nv_controller.proofs.Words.{reset_untagged, State, untagged, untagged_back, untagged_keeps, untagged_log}

-- a machine with a well-formed subsystem and registers for each controller is a lawful bus
pub is_bus : (m : MachineValue) → IsWellFormed m.state → length m.banks ≡ length m.state.controllers
    → IsBus (bus_of m)
is_bus m w same = record {
  state = untagged_keeps m.state w;
  banks = same ∙ sym (length-map m.state.controllers untagged_log);
}

-- the subsystem of a machine that is a lawful bus is well formed
pub well_formed_bus : (s : State) (m : MachineValue) → s ≡ m.state → IsBus (bus_of m) → IsWellFormed s
well_formed_bus s m is bus = untagged_back s (rw is bus.state)

-- a machine that is a lawful bus has registers for each controller of its subsystem
pub controllers_of : (m : MachineValue) → IsBus (bus_of m) → length m.banks ≡ length m.state.controllers
controllers_of m bus = omega (arith, bus.banks, length-map m.state.controllers untagged_log)

-- a controller with registers in a machine that is a lawful bus is one of its subsystem
pub controller_within : (s : State) (m : MachineValue) (c : ℕ) → s ≡ m.state → IsBus (bus_of m) → c < length m.banks
    → c < length s.controllers
controller_within s m c is bus within =
    omega (arith, controllers_of m bus, ap (λ (t : State). length t.controllers) is)

pub ruleset resets = (length-reset)

-- a reset, if there is one, is the same with and without phase tags
pub reset_if_untagged : (stops : Bool) (s : State) (c : ℕ)
    → untagged (if stops then reset s c else s) ≡ (if stops then reset (untagged s) c else untagged s)
reset_if_untagged true s c = reset_untagged s c
reset_if_untagged false s c = refl
