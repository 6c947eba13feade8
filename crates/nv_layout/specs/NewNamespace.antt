-- What a host asks of a namespace to create, by its offset table.
use Rattle.std.specs.Prelude.{◌≡◌, ℕ, ◌^◌, ◌<◌, List, [], ◌∷◌}
use Rattle.nv_layout.specs.Parts.{Part, laid_out, number, number_at}
use Rattle.nv_layout.specs.IdNs.{id_ns_of_bytes}
use Rattle.nv_layout.specs.declared.id_ns.IdNs.{IdNs}
use Rattle.nv_layout.specs.declared.new_namespace.NewNamespace.{NewNamespace}

-- the fields of a namespace to create at their offsets
abbrev pub new_namespace_parts : NewNamespace → List Part
new_namespace_parts w =
    number 0 8 w.nsze
    ∷ number 8 8 w.ncap
    ∷ number 26 1 w.flbas
    ∷ number 29 1 w.dps
    ∷ number 30 1 w.nmic
    ∷ []

-- the parameters of a namespace to create as 4,096 bytes
unfoldable pub bytes_of_new_namespace : NewNamespace → List ℕ
bytes_of_new_namespace w = laid_out 4096 (new_namespace_parts w)

-- the parameters of a namespace to create in these bytes
unfoldable pub new_namespace_of_bytes : List ℕ → NewNamespace
new_namespace_of_bytes bytes = record {
  nsze = number_at 0 8 bytes;
  ncap = number_at 8 8 bytes;
  flbas = number_at 26 1 bytes;
  dps = number_at 29 1 bytes;
  nmic = number_at 30 1 bytes;
}

-- each field fits its bits
pub record NewNamespaceFits (w : NewNamespace) : Type 0 where
  pub nsze : w.nsze < 2 ^ 64
  pub ncap : w.ncap < 2 ^ 64
  pub flbas : w.flbas < 2 ^ 8
  pub dps : w.dps < 2 ^ 8
  pub nmic : w.nmic < 2 ^ 8

-- the parameters of a namespace to create whose fields fit are read back from their bytes
abbrev pub NewNamespaceReadsBack : Type 0
NewNamespaceReadsBack = (w : NewNamespace) → NewNamespaceFits w
    → new_namespace_of_bytes (bytes_of_new_namespace w) ≡ w

-- what a host chooses of a namespace, by its Identify data
abbrev pub chosen_in : IdNs → NewNamespace
chosen_in r =
    record { nsze = r.nsze; ncap = r.ncap; flbas = r.flbas; dps = r.dps; nmic = r.nmic }

-- each field is read where a namespace's Identify data has it
abbrev pub NewNamespacePlaces : Type 0
NewNamespacePlaces =
    (bytes : List ℕ) → new_namespace_of_bytes bytes ≡ chosen_in (id_ns_of_bytes bytes)
