use Rattle.std.proofs.Common.{◌≡◌, ◌≢◌, length, map}
use Rattle.nv_file.specs.TableChecks.{controller_checks, controller_value}
use Rattle.nv_file.proofs.Words.{All, AllPairs, cntlid_of, controller_entry_view, IsControllerEntry}
use Rattle.nv_file.proofs.ReadTo.{IsReadTo}
use Rattle.nv_file.proofs.controller.controller_entries_of.Given as goal

abbrev pub invariant-loop-table : goal.invariant-loop-table
invariant-loop-table l = record {
  read : IsReadTo cntlid_of (controller_checks l.version) controller_value l.tables
      l.table-index (map controller_entry_view l.controllers.items);
  count : length l.controllers.items ≡ l.table-index;
  sound : All IsControllerEntry (map controller_entry_view l.controllers.items);
  cntlids : AllPairs (λ c d. c.identity.cntlid ≢ d.identity.cntlid) (map controller_entry_view l.controllers.items);
}
