use Rattle.std.proofs.Common.{◌≡◌, ◌++◌, ◌∷◌, [], Err, map, arith, refl, rules}
use Rattle.nv_file.specs.TableChecks.{namespace_value}
use Rattle.nv_file.proofs.Words.{All-push, common_steps, IsNamespaceEntry, map_push, Members, namespace_entry_view}
use Rattle.nv_file.proofs.Words.{NamespaceValue, nsid_of}
use Rattle.nv_file.proofs.CheckLaws.{memory_or_fault}
use Rattle.nv_file.proofs.Distinct.{fresh_namespace}
use Rattle.nv_file.proofs.ReadTo.{numbers_viewed, read_all, read_fails_unless_memory, read_more}
use Rattle.nv_file.proofs.namespace.namespace_entries_of.Goals as goal

same_nsid : (m : Members) → (namespace_value m).nsid ≡ nsid_of m
unfolding namespace_value
same_nsid m = refl

pub loop-table-preserved : goal.loop-table-preserved
loop-table-preserved c =
    let xs = c.loop-table.namespaces.items in
    let x = c.in_ok-namespace.namespace in
    let read = c.loop-table.invariant.read in
    let grown : c.push.new.self.items ≡ xs ++ x ∷ [] = c.in_ok-push.ensures.items in
    let new = rw c.deref.ensures.value at c.in_ok-namespace.ensures.new in
    let good = IsNamespaceEntry c.args.nn c.args.mc c.args.formats.now in
    let is = rw (
      c.deref.ensures.value,
      numbers_viewed _ _ _ namespace_entry_view
          (λ (v : NamespaceValue). v.nsid) same_nsid _ _ xs read,
    ) at c.in_ok-namespace.ensures.exact in
    record {
      read = rw (grown, map_push namespace_entry_view xs x)
          (read_more _ _ _ _ _ _ _ _ read c.loop-table-test.true c.table-item.is is.0 is.1.0);
      count = grind (arith, common_steps);
      sound = rw (grown, map_push namespace_entry_view xs x)
          (All-push good (map namespace_entry_view xs) (namespace_entry_view x)
          c.loop-table.invariant.sound c.in_ok-namespace.ensures.sound);
      nsids = rw grown (fresh_namespace xs x c.loop-table.invariant.nsids new);
    }

pub returns-in_err-namespace-clause-exact : goal.returns-in_err-namespace-clause-exact
returns-in_err-namespace-clause-exact c =
    let xs = c.loop-table.namespaces.items in
    let read = c.loop-table.invariant.read in
    let fails = rw (
      c.deref.ensures.value,
      numbers_viewed _ _ _ namespace_entry_view
          (λ (v : NamespaceValue). v.nsid) same_nsid _ _ xs read,
    ) at c.in_err-namespace.ensures.exact in
    let is : c.from_residual.result ≡ Err c.in_err-namespace.field-0.0 = search rules in
    rw is (read_fails_unless_memory _ _ _ _ _ _ _ _ read c.loop-table-test.true c.table-item.is
    (memory_or_fault fails))

pub returns-clause-exact : goal.returns-clause-exact
returns-clause-exact c = read_all _ _ _ _ _ _ c.loop-table.invariant.read c.loop-table-test.false
