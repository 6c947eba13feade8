-- A whole file: the checks of its tables, in the order of the file, and the checks between them; and
-- what it holds if none of them fails. `m` are the members of the top table.
use Rattle.std.specs.Prelude.{◌≡◌, ℕ, ℤ, pos, Bool, true, not, ◌&&◌, ◌||◌, List, [], ◌∷◌, ◌++◌, length}
use Rattle.std.specs.Prelude.{map, Result, Err, nat_le, sum_by, if◌then◌else◌}
use Rattle.std.specs.List.{list_all, list_any}
use Rattle.std.specs.Option.{ok_or}
use Rattle.std.specs.Ordering.{int_eq}
use Rattle.std.specs.Str.{is_utf8}
use Rattle.toml.specs.Data.{Members}
use Rattle.toml.specs.Errors.{IsBlank}
use Rattle.toml.specs.Parse.{parse_document}
use Rattle.nv_layout.specs.Steps.{◌>>=◌}
use Rattle.nv_model.specs.Ranges.{greatest_integer}
use Rattle.nv_model.specs.declared.format.Format.{Format}
use Rattle.nv_file.specs.declared.error.SubsystemError.{SubsystemError}
use Rattle.nv_file.specs.declared.error.SubsystemError.TheVariants.{NotToml, Missing, Capacity, Attachment}
use Rattle.nv_file.specs.declared.table_name.TableName.TheVariants as table
use Rattle.nv_file.specs.declared.key.Key.TheVariants as key
use Rattle.nv_file.specs.Check.{Check, check, checked}
use Rattle.nv_file.specs.FileValue.{ControllerValue, NamespaceValue, FileValue}
use Rattle.nv_file.specs.KeyChecks.{integer, optional_integer, text, tables, of_kind, in_limits, as_tables}
use Rattle.nv_file.specs.KeyChecks.{no_other, each, number_at, text_at, tables_at}
use Rattle.nv_file.specs.Names.{keys_of}
use Rattle.nv_file.specs.TableChecks.{format_checks, format_value, controller_checks}
use Rattle.nv_file.specs.TableChecks.{cntlid_of, controller_value, namespace_checks, namespace_value, nsid_of}
use Rattle.nv_layout.specs.Limits.{most_nsids}

-- ---- the top table

-- the greatest NSID of the subsystem
abbrev pub nn_of : Members → ℕ
nn_of m = number_at key.Nn 0 m

-- the keys before the lists of tables
abbrev pub first_top_checks : Members → List Check
first_top_checks m =
    integer table.Top key.Version 1 2 m
    ++ integer table.Top key.Nn 1 most_nsids m
    ++ integer table.Top key.Tnvmcap 0 greatest_integer m
    ++ optional_integer table.Top key.Mc 0 3 m
    ++ text table.Top key.Subnqn 223 m

-- the checks of the top table
unfoldable pub top_checks : Members → List Check
top_checks m =
    first_top_checks m
    ++ tables table.Top key.Format 16 m
    ++ tables table.Top key.Controller 16 m
    ++ of_kind table.Top key.Namespace as_tables m
    ++ in_limits table.Top key.Namespace (nat_le (length (tables_at key.Namespace m)) (nn_of m))
    ++ no_other table.Top (keys_of table.Top) m

-- the formats of the file
abbrev pub formats_of : Members → List Format
formats_of m = map format_value (tables_at key.Format m)

-- the controllers of the file
abbrev pub controllers_of : Members → List ControllerValue
controllers_of m = map controller_value (tables_at key.Controller m)

-- the namespaces of the file
abbrev pub namespaces_of : Members → List NamespaceValue
namespaces_of m = map namespace_value (tables_at key.Namespace m)

-- ---- between the tables

-- the capacities add up to no more than there is
abbrev pub fits : ℕ → List NamespaceValue → Bool
fits tnvmcap namespaces = nat_le (sum_by (λ n. n.namespace.capacity) namespaces) tnvmcap

-- a controller has the identifier
abbrev pub is_cntlid : List ControllerValue → ℤ → Bool
is_cntlid controllers z = list_any (λ c. int_eq (pos c.identity.cntlid) z) controllers

-- no number occurs twice
abbrev pub differ : List ℤ → Bool
differ [] = true
differ (z ∷ zs) = not (list_any (λ y. int_eq y z) zs) && differ zs

-- the list names controllers, each once, and at most one if the namespace isn't shared
abbrev pub may_attach : List ControllerValue → NamespaceValue → Bool
may_attach controllers n =
    list_all (is_cntlid controllers) n.controllers
    && (differ n.controllers && (n.namespace.shared || nat_le (length n.controllers) 1))

-- each namespace may be attached as its list says
unfoldable pub attaches : List ControllerValue → List NamespaceValue → Bool
attaches controllers namespaces = list_all (may_attach controllers) namespaces

-- ---- the whole

-- the checks of a whole file
unfoldable pub file_checks : Members → List Check
file_checks m =
    top_checks m
    ++ each (λ _. 0) (λ _. format_checks) [] (tables_at key.Format m)
    ++ each cntlid_of (controller_checks (number_at key.Version 0 m)) [] (tables_at key.Controller m)
    ++ each nsid_of (namespace_checks (nn_of m) (number_at key.Mc 0 m) (formats_of m)) []
    (tables_at key.Namespace m)
    ++ check (fits (number_at key.Tnvmcap 0 m) (namespaces_of m)) Capacity
    ++ check (attaches (controllers_of m) (namespaces_of m)) Attachment

-- what a whole file holds
unfoldable pub file_value : Members → FileValue
file_value m = record {
  nn = nn_of m;
  tnvmcap = number_at key.Tnvmcap 0 m;
  mc = number_at key.Mc 0 m;
  subnqn = text_at key.Subnqn m;
  formats = formats_of m;
  controllers = controllers_of m;
  namespaces = namespaces_of m;
}

-- a text of white space and comments alone
abbrev pub IsBlankText : List ℕ → Type 0
IsBlankText bytes = (is_utf8 bytes ≡ true) × IsBlank bytes

-- the first fault of a file that holds nothing
abbrev pub no_version : SubsystemError
no_version = Missing table.Top key.Version

-- the top table of a document
unfoldable pub document : List ℕ → Result Members SubsystemError
document bytes = if is_utf8 bytes then ok_or (parse_document bytes) NotToml else Err NotToml

-- what a file holds, or its first fault
unfoldable pub file : List ℕ → Result FileValue SubsystemError
file bytes = do
  m ← document bytes
  checked (file_checks m) (file_value m)
