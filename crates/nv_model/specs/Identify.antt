-- The Identify commands: when they are refused, and what they return.
use Rattle.std.specs.Prelude.{ℕ, ◌+◌, ◌-◌, ◌==◌, ◌||◌, not, nat_le, List, [], ◌∷◌, ◌++◌, length}
use Rattle.std.specs.Prelude.{map, replicate, if◌then◌else◌}
use Rattle.std.specs.Option.{option_map_or}
use Rattle.std.specs.FinMap as map_of
use Rattle.nv_bits.specs.Above.{above}
use Rattle.nv_layout.specs.declared.id_ns.IdNs.{IdNs}
use Rattle.nv_layout.specs.declared.id_ns.Lbaf.{Lbaf}
use Rattle.nv_command.specs.Nsid.{broadcast_nsid}
use Rattle.nv_command.specs.declared.reply.Reply.{Reply}
use Rattle.nv_command.specs.declared.reply.Reply.TheVariants as reply
use Rattle.nv_command.specs.declared.status_code.StatusCode.TheVariants.{InvalidNamespaceOrFormat}
use Rattle.nv_model.specs.WellFormed.{blocks}
use Rattle.nv_model.specs.Conditions.{active_nsids, is_active, is_valid, row, Row}
use Rattle.nv_model.specs.State.{State, allocated_nsids}
use Rattle.nv_model.specs.declared.format.Format.{Format}
use Rattle.nv_model.specs.declared.namespace.Namespace.{Namespace}

-- ---- refusals

-- an active namespace: an NSID that is not valid, other than the broadcast one
abbrev pub active_rows : State → ℕ → List Row
active_rows s n = row (not (is_valid s n || n == broadcast_nsid)) InvalidNamespaceOrFormat ∷ []

-- an allocated namespace: an NSID that is not valid
abbrev pub allocated_rows : State → ℕ → List Row
allocated_rows s n = row (not (is_valid s n)) InvalidNamespaceOrFormat ∷ []

-- a list: an NSID above FFFFFFFDh
abbrev pub list_rows : ℕ → List Row
list_rows after = row (nat_le 0xffff_fffe after) InvalidNamespaceOrFormat ∷ []

-- ---- records

-- a format as an LBA format
abbrev pub lbaf_of : Format → Lbaf
lbaf_of f = record { ms = f.ms; lbads = f.lbads; rp = f.rp }

-- an LBA format of zeros
abbrev pub no_lbaf : Lbaf
no_lbaf = record { ms = 0; lbads = 0; rp = 0 }

-- the formats, followed by zeros up to sixteen
abbrev pub lbafs_of : List Format → List Lbaf
lbafs_of fs = map lbaf_of fs ++ replicate (16 - length fs) no_lbaf

-- a namespace that doesn't exist: zeros
abbrev pub blank : IdNs
blank = record {
  nsze = 0;
  ncap = 0;
  nuse = 0;
  nsfeat = 0;
  nlbaf = 0;
  flbas = 0;
  mc = 0;
  dpc = 0;
  dps = 0;
  nmic = 0;
  nvmcap = 0;
  lbafs = replicate 16 no_lbaf;
}

-- what all namespaces have in common: the formats (their number less one) and how metadata can be placed
abbrev pub common_of : List Format → ℕ → IdNs
common_of formats mc =
    record blank { nlbaf = length formats - 1; mc = mc; lbafs = lbafs_of formats }

-- FLBAS: the format, and bit 4 if metadata is at the end of each logical block
abbrev pub flbas_of : Namespace → ℕ
flbas_of x = x.format + (if x.extended then 16 else 0)

-- the data of a namespace
abbrev pub id_ns_of : List Format → ℕ → Namespace → IdNs
id_ns_of formats mc x = record (common_of formats mc) {
  nsze = blocks formats x;
  ncap = blocks formats x;
  flbas = flbas_of x;
  nmic = if x.shared then 1 else 0;
  nvmcap = x.capacity;
}

-- the data of the namespace if it is allocated, and otherwise zeros
abbrev pub allocated_namespace : State → ℕ → IdNs
allocated_namespace s n = option_map_or (id_ns_of s.formats s.mc) (map_of.get s.namespaces n) blank

-- the data of the namespace if it is attached to the controller, and otherwise zeros
abbrev pub active_namespace : State → ℕ → ℕ → IdNs
active_namespace s c n = if is_active s c n then allocated_namespace s n else blank

-- ---- replies

-- the data of an active namespace; for the broadcast NSID, what all namespaces have in common
abbrev pub active_reply : State → ℕ → ℕ → Reply
active_reply s c n =
    reply.Namespace (if n == broadcast_nsid
    then common_of s.formats s.mc
    else active_namespace s c n)

-- the data of an allocated namespace
abbrev pub allocated_reply : State → ℕ → Reply
allocated_reply s n = reply.Namespace (allocated_namespace s n)

-- the NSIDs above `after` that are attached to the controller
abbrev pub active_list_reply : State → ℕ → ℕ → Reply
active_list_reply s c after = reply.List (above after (active_nsids s c))

-- the NSIDs above `after` that are allocated
abbrev pub allocated_list_reply : State → ℕ → Reply
allocated_list_reply s after = reply.List (above after (allocated_nsids s))
