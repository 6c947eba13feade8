use Rattle.std.proofs.Common.{◌≡◌, subst}
use Rattle.nv_file.specs.File.{file, file_checks, file_value, first_top_checks, no_version}
use Rattle.nv_file.proofs.Words.{file_view, IsCheckedBeforeMemory, no_members, table_view}
use Rattle.nv_file.proofs.CheckLaws.{answers, first_fault}
use Rattle.nv_file.proofs.EmptyTables.{no_version_at_all, no_version_first}
use Rattle.nv_file.proofs.file.File.from_toml.Goals as goal

pub returns-clause-exact : goal.returns-clause-exact
unfolding file
returns-clause-exact c =
    let m = table_view c.in_ok-table.table in
    rw c.in_ok-table.ensures.exact (answers file_view (first_top_checks m) (file_checks m) (file_value m)
    c.file_of.result c.file_of.ensures.exact)

pub returns-clause-blank : goal.returns-clause-blank
returns-clause-blank c = λ blank.
    let empty : table_view c.in_ok-table.table ≡ no_members = cc (c.in_ok-table.ensures.blank blank) in
    first_fault file_view _ _ _ c.file_of.result no_version no_version_first no_version_at_all
    (subst (λ m. IsCheckedBeforeMemory file_view (first_top_checks m) (file_checks m) (file_value m)
    c.file_of.result) empty c.file_of.ensures.exact)
