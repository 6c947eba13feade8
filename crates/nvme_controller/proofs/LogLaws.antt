-- The entries of a log as a program in C gets them.
use Rattle.std.proofs.Common.{◌≡◌, ◌∙◌, ℕ, ◌≤◌, List, ap, arith, length, refl, subst, sym}
use Rattle.std.proofs.lemmas.Option.{slice_get_past}
use Rattle.std.specs.Option.{option_map_or}
use Rattle.std.specs.Prelude.{pos, slice_get, None, Some}
use Rattle.nv_bus.specs.Bus.{IsBus}
use Rattle.nv_controller.specs.Machine.{MachineValue, bus_of}
use Rattle.nv_layout.specs.ErrorEntryBytes.{bytes_of_error_entry}
use Rattle.nv_layout.specs.declared.error_entry.ErrorEntry.{ErrorEntry}
use Rattle.nv_model.specs.LogEntry.{log_entry_of}
use Rattle.nv_model.specs.State.{State}
use Rattle.nv_controller.proofs.BusLaws.{controller_within, controllers_of}
use Rattle.nvme_controller.specs.Calls.{EntryTold}

-- the bytes of an entry tell the entry, and the call returns 1
pub entry_told : (s t : State) (c i : ℕ) (e : ErrorEntry) (old new : List ℕ) → s ≡ t
    → Some e ≡ log_entry_of s c i → new ≡ bytes_of_error_entry e
    → EntryTold (log_entry_of t c i) (pos 1) old new
entry_told s t c i e old new same is put =
    subst (λ o. EntryTold o (pos 1) old new) (is ∙ ap (λ u. log_entry_of u c i) same) (refl, put)

-- if there is no such entry, the call writes nothing and returns 0
pub none_told : (s t : State) (c i : ℕ) (old : List ℕ) → s ≡ t → None ≡ log_entry_of s c i
    → EntryTold (log_entry_of t c i) (pos 0) old old
none_told s t c i old same is =
    subst (λ o. EntryTold o (pos 0) old old) (is ∙ ap (λ u. log_entry_of u c i) same) (refl, refl)

-- if there is no such controller, the call writes nothing and returns 0
pub nowhere_told : (m : MachineValue) (c i : ℕ) (old : List ℕ) → IsBus (bus_of m) → length m.banks ≤ c
    → EntryTold (log_entry_of m.state c i) (pos 0) old old
nowhere_told m c i old bus past =
    let more : length m.state.controllers ≤ c = omega (arith, controllers_of m bus) in
    subst (λ o. EntryTold (option_map_or (λ x. slice_get x.log i) o None) (pos 0) old old)
    (sym (slice_get_past m.state.controllers c more)) (refl, refl)

pub ruleset entries = (entry_told, none_told, nowhere_told, controller_within)
