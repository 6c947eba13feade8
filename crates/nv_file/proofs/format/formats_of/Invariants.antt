use Rattle.std.proofs.Common.{◌≡◌, length}
use Rattle.nv_file.specs.TableChecks.{format_checks, format_value}
use Rattle.nv_file.proofs.Words.{All, IsFormat}
use Rattle.nv_file.proofs.ReadTo.{IsReadTo}
use Rattle.nv_file.proofs.format.formats_of.Given as goal

abbrev pub invariant-loop-table : goal.invariant-loop-table
invariant-loop-table l = record {
  read : IsReadTo (λ _. 0) (λ _. format_checks) format_value l.tables l.table-index l.formats.items;
  count : length l.formats.items ≡ l.table-index;
  sound : All IsFormat l.formats.items;
}
