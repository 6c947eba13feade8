-- Namespace Management: when a create or a delete is refused, what it answers, and what it changes.
use Rattle.std.specs.Prelude.{ℕ, ◌*◌, ◌-◌, ◌^◌, ◌==◌, ◌||◌, not, min, nat_lt, bit_and, Bool, List}
use Rattle.std.specs.Prelude.{[], ◌∷◌, is_some, unwrap_or, if◌then◌else◌, map}
use Rattle.std.specs.Option.{option_map_or}
use Rattle.std.specs.FinMap as map_of
use Rattle.nv_command.specs.StatusCode.{status_of_code}
use Rattle.nv_command.specs.Nsid.{broadcast_nsid}
use Rattle.nv_layout.specs.declared.new_namespace.NewNamespace.{NewNamespace}
use Rattle.nv_command.specs.declared.refusal.Refusal.{Refusal}
use Rattle.nv_command.specs.declared.status_code.StatusCode.TheVariants.{InvalidFieldInCommand, InvalidFormat}
use Rattle.nv_command.specs.declared.status_code.StatusCode.TheVariants.{InvalidNamespaceOrFormat}
use Rattle.nv_command.specs.declared.status_code.StatusCode.TheVariants.{NamespaceIdentifierUnavailable}
use Rattle.nv_command.specs.declared.status_code.StatusCode.TheVariants.{NamespaceInsufficientCapacity}
use Rattle.nv_command.specs.declared.status_code.StatusCode.TheVariants.{ThinProvisioningNotSupported}
use Rattle.nv_model.specs.declared.namespace.Namespace.{Namespace}
use Rattle.nv_model.specs.WellFormed.{unallocated}
use Rattle.nv_model.specs.Conditions.{can_have, format_at, free_nsid, is_allocated, is_valid, row, Row}
use Rattle.nv_model.specs.State.{Controller, Nsids, State}
use Rattle.nv_model.specs.Values.{FeatureValues, is_alone, recovery_key}

-- ---- create

-- FLBAS 3:0: the index of the format
abbrev pub format_index : ℕ → ℕ
format_index flbas = bit_and flbas 0xf

-- FLBAS bit 4: metadata lies at the end of each logical block
abbrev pub is_extended : ℕ → Bool
is_extended flbas = not (bit_and flbas 0x10 == 0)

-- the bytes of NSZE logical blocks; metadata isn't counted
abbrev pub bytes_needed : State → NewNamespace → ℕ
bytes_needed s w = option_map_or (λ f. w.nsze * 2 ^ f.lbads) (format_at s (format_index w.flbas)) 0

-- too little capacity: the refusal reports the bytes needed, up to the greatest number of 64 bits
abbrev pub capacity_refusal : ℕ → Refusal
capacity_refusal bytes = record {
  status = status_of_code NamespaceInsufficientCapacity;
  specific = min bytes (2 ^ 64 - 1);
}

-- the rows of a create, in the order in which they are tested
abbrev pub create_rows : State → NewNamespace → List Row
create_rows s w =
    row (not (can_have s (format_index w.flbas) (is_extended w.flbas))) InvalidFormat
    ∷ row (not (w.dps == 0)) InvalidFieldInCommand
    ∷ row (w.nsze == 0) InvalidFieldInCommand
    ∷ row (nat_lt w.ncap w.nsze) ThinProvisioningNotSupported
    ∷ row (nat_lt w.nsze w.ncap) InvalidFieldInCommand
    ∷ row (nat_lt 1 w.nmic) InvalidFieldInCommand
    ∷ row (not (is_some (free_nsid s))) NamespaceIdentifierUnavailable
    ∷ record {
      when = nat_lt (unallocated s) (bytes_needed s w);
      refusal = capacity_refusal (bytes_needed s w);
    }
    ∷ []

-- the namespace that a create makes
abbrev pub new_namespace : State → NewNamespace → Namespace
new_namespace s w = record {
  capacity = bytes_needed s w;
  format = format_index w.flbas;
  extended = is_extended w.flbas;
  shared = bit_and w.nmic 1 == 1;
}

-- the NSID that a create answers
abbrev pub created_nsid : State → ℕ
created_nsid s = unwrap_or (free_nsid s) 0

-- a create makes a namespace of the least free NSID, and attaches it to no controller
abbrev pub created : State → NewNamespace → State
created s w =
    option_map_or (λ n. record s { namespaces = map_of.insert s.namespaces n (new_namespace s w) })
    (free_nsid s) s

-- ---- delete

-- an NSID that isn't valid, or not allocated, other than the broadcast NSID
abbrev pub delete_rows : State → ℕ → List Row
delete_rows s n =
    row (not (is_valid s n || n == broadcast_nsid)) InvalidNamespaceOrFormat
    ∷ row (not (is_allocated s n || n == broadcast_nsid)) InvalidFieldInCommand
    ∷ []

-- the NSIDs that are attached to a controller, and the values of its features
pub record Attached : Type 0 where
  pub nsids : Nsids
  pub values : FeatureValues

-- a controller with others, and a subsystem with such controllers
abbrev pub with_nsids : (Controller → Attached) → Controller → Controller
with_nsids to x = record x { attached = (to x).nsids; values = (to x).values }

-- a subsystem whose controllers all have other NSIDs and values
abbrev pub with_attached : State → (Controller → Attached) → State
with_attached s to = record s { controllers = map (with_nsids to) s.controllers }

-- without an NSID: its Error Recovery goes too
abbrev pub without : ℕ → Controller → Attached
without n x = record {
  nsids = map_of.remove x.attached n;
  values = map_of.remove x.values (recovery_key n);
}

-- without any: what any namespace has goes too
abbrev pub without_any : Controller → Attached
without_any x = record {
  nsids = map_of.empty;
  values = map_of.retain_keys x.values is_alone;
}

-- without a namespace, which is detached everywhere
abbrev pub without_one : State → ℕ → State
without_one s n = record (with_attached s (without n)) { namespaces = map_of.remove s.namespaces n }

-- without any namespace
abbrev pub without_all : State → State
without_all s = record (with_attached s without_any) { namespaces = map_of.empty }

-- the state after a delete, which deletes all namespaces for the broadcast NSID
abbrev pub deleted : State → ℕ → State
deleted s n = if n == broadcast_nsid then without_all s else without_one s n
