-- Format NVM: when a format is refused, and what it changes: what no public contract reaches.
use Rattle.std.specs.Prelude.{ℕ, Bool}
use Rattle.std.specs.Option.{option_map_or}
use Rattle.std.specs.FinMap as map_of
use Rattle.nv_model.specs.State.{Namespaces}
use Rattle.nv_model.specs.Format.{in_format}

-- the namespaces with one of them formatted, if it exists
abbrev pub with_format : ℕ → Bool → Namespaces → ℕ → Namespaces
with_format lbaf mset m n =
    option_map_or (λ x. map_of.insert m n (in_format lbaf mset x)) (map_of.get m n) m
