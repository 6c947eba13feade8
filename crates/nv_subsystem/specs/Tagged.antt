-- The phase tags in the entries of error logs: a subsystem in memory is a state whose logs have
-- them, and the abstract step's state is the same without them.
use Rattle.std.specs.Prelude.{ℕ, Bool, List, [], ◌∷◌, map, Option, None, Some}
use Rattle.nv_command.specs.Form.{namespace_of}
use Rattle.nv_command.specs.declared.command.Command.{Command}
use Rattle.nv_command.specs.declared.refusal.Refusal.{Refusal}
use Rattle.nv_layout.specs.ErrorEntryBytes.{without_phase}
use Rattle.nv_layout.specs.declared.error_entry.ErrorEntry.{ErrorEntry}
use Rattle.nv_model.specs.Meaning.{effect_of}
use Rattle.nv_model.specs.State.{Controller, State, with_controller}
use Rattle.nv_model.specs.Step.{with_command, with_refusal}
use Rattle.nv_model.specs.declared.origin.Origin.{Origin}

-- ---- without tags

-- a controller whose log has no phase tags
abbrev pub untagged_log : Controller → Controller
untagged_log x = record x { log = map without_phase x.log }

-- no entry of a log has a phase tag
abbrev pub untagged : State → State
untagged s = record s { controllers = map untagged_log s.controllers }

-- ---- with tags

-- an entry with this phase tag
abbrev pub with_phase : Bool → ErrorEntry → ErrorEntry
with_phase phase e = record e { phase = phase }

-- a log whose newest entry has this phase tag
abbrev pub newest_tagged : Bool → List ErrorEntry → List ErrorEntry
newest_tagged phase [] = []
newest_tagged phase (e ∷ es) = with_phase phase e ∷ es

-- a controller after another refusal, whose entry has the phase tag of the command's completion
abbrev pub with_booked : ℕ → Origin → Refusal → Controller → Controller
with_booked nsid origin r x =
    let refusing = with_refusal nsid origin.cid r x in
    record refusing { log = newest_tagged origin.phase refusing.log }

-- the state after a refusal of controller c
abbrev pub booked : State → ℕ → ℕ → Origin → Refusal → State
booked s c nsid origin r = with_controller s c (with_booked nsid origin r)

-- the state after a command of controller c, given why it is refused, if it is
abbrev pub settled : State → ℕ → Command → Origin → Option Refusal → State
settled s c k origin None = with_command (effect_of s c k) c
settled s c k origin (Some r) = with_command (booked s c (namespace_of k) origin r) c
