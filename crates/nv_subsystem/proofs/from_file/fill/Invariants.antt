use Rattle.std.proofs.Common.{◌≡◌, drop, map}
use Rattle.nv_subsystem.proofs.Words.{fold, namespace_entry_view, with_namespace}
use Rattle.nv_subsystem.proofs.from_file.fill.Given as goal

abbrev pub invariant-loop-entry : goal.invariant-loop-entry
invariant-loop-entry l =
    let at_start = l.initial.slots in
    (l.slots.first ≡ at_start.first) × (l.slots.count ≡ at_start.count)
    × (fold with_namespace l.slots.values (map namespace_entry_view (drop l.entry-index l.entries))
    ≡ fold with_namespace at_start.values (map namespace_entry_view l.entries))
