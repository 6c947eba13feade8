-- The checks before the first allocation: what no public contract reaches.
use Rattle.std.specs.Prelude.{ℕ, ◌==◌, List, [], if◌then◌else◌}
use Rattle.toml.specs.Data.{Members, as_array}
use Rattle.nv_file.specs.declared.table_name.TableName.TheVariants as table
use Rattle.nv_file.specs.declared.key.Key.TheVariants as key
use Rattle.nv_file.specs.Check.{Check}
use Rattle.nv_file.specs.KeyChecks.{of_kind}

-- the value of `over`, if the version has it, must be a list
abbrev pub first_defaults_checks : ℕ → Members → List Check
first_defaults_checks version m =
    if version == 1 then [] else of_kind table.Feature key.Over as_array m
