-- Format NVM: when a format is refused, and what it changes.
use Rattle.std.specs.Prelude.{ℕ, ◌^◌, ◌==◌, ◌&&◌, ◌||◌, not, nat_lt, Bool, false, List, [], ◌∷◌}
use Rattle.std.specs.List.{list_any}
use Rattle.std.specs.Option.{option_map_or}
use Rattle.std.specs.FinMap as map_of
use Rattle.nv_command.specs.Nsid.{broadcast_nsid}
use Rattle.nv_command.specs.declared.format.NewFormat.{NewFormat}
use Rattle.nv_command.specs.declared.status_code.StatusCode.TheVariants.{InvalidFieldInCommand, InvalidFormat}
use Rattle.nv_command.specs.declared.status_code.StatusCode.TheVariants.{InvalidNamespaceOrFormat}
use Rattle.nv_model.specs.declared.namespace.Namespace.{Namespace}
use Rattle.nv_model.specs.Change.{changed_at_keys}
use Rattle.nv_model.specs.Conditions.{can_have, format_at, concerned, is_active, is_valid, row, Row}
use Rattle.nv_model.specs.State.{State, controller_at}

-- a namespace with a capacity below a size
abbrev pub is_below : State → ℕ → ℕ → Bool
is_below s size n = option_map_or (λ x. nat_lt x.capacity size) (map_of.get s.namespaces n) false

-- one of some namespaces has no room for a logical block of a format
abbrev pub has_one_below : State → ℕ → List ℕ → Bool
has_one_below s lbaf ns =
    option_map_or (λ format. list_any (is_below s (2 ^ format.lbads)) ns)
    (format_at s lbaf) false

-- the controller can erase by a key
abbrev pub can_erase_by_key : State → ℕ → Bool
can_erase_by_key s c = option_map_or (λ x. x.identity.crypto_erase) (controller_at s c) false

-- an NSID that isn't valid, or not active; a format that the subsystem can't have, that has protection information, or
-- for which a namespace has no room; and an erase that the controller doesn't have
abbrev pub format_rows : State → ℕ → NewFormat → List Row
format_rows s c f =
    row (not (is_valid s f.nsid || f.nsid == broadcast_nsid)) InvalidNamespaceOrFormat
    ∷ row (not (is_active s c f.nsid || f.nsid == broadcast_nsid)) InvalidFieldInCommand
    ∷ row (not (can_have s f.lbaf f.mset)) InvalidFormat
    ∷ row (not (f.pi == 0) || f.pil) InvalidFormat
    ∷ row (has_one_below s f.lbaf (concerned s c f.nsid)) InvalidFormat
    ∷ row (nat_lt 2 f.ses || (f.ses == 2 && not (can_erase_by_key s c))) InvalidFieldInCommand
    ∷ []

-- a namespace in another format, with its metadata elsewhere; its capacity stays
abbrev pub in_format : ℕ → Bool → Namespace → Namespace
in_format lbaf mset x = record x { format = lbaf; extended = mset }

-- the state after a format: each concerned namespace is in it
abbrev pub formatted : State → ℕ → NewFormat → State
formatted s c f =
    record s {
      namespaces = changed_at_keys (concerned s c f.nsid) (in_format f.lbaf f.mset) s.namespaces;
    }
