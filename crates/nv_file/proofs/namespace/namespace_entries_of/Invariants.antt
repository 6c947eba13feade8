use Rattle.std.proofs.Common.{◌≡◌, ◌≢◌, length, map}
use Rattle.nv_file.specs.TableChecks.{namespace_checks, namespace_value}
use Rattle.nv_file.proofs.Words.{All, AllPairs, IsNamespaceEntry, namespace_entry_view, nsid_of}
use Rattle.nv_file.proofs.ReadTo.{IsReadTo}
use Rattle.nv_file.proofs.namespace.namespace_entries_of.Given as goal

abbrev pub invariant-loop-table : goal.invariant-loop-table
invariant-loop-table l = record {
  read : IsReadTo nsid_of (namespace_checks l.nn l.mc l.formats) namespace_value l.tables
      l.table-index (map namespace_entry_view l.namespaces.items);
  count : length l.namespaces.items ≡ l.table-index;
  sound : All (IsNamespaceEntry l.nn l.mc l.formats) (map namespace_entry_view l.namespaces.items);
  nsids : AllPairs (λ m n. m.nsid ≢ n.nsid) (map namespace_entry_view l.namespaces.items);
}
