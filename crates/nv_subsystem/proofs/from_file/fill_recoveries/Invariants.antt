use Rattle.std.proofs.Common.{◌≡◌, drop, map}
use Rattle.nv_subsystem.proofs.Words.{fold, namespace_entry_view, with_recovery}
use Rattle.nv_subsystem.proofs.from_file.fill_recoveries.Given as goal

abbrev pub invariant-loop-entry : goal.invariant-loop-entry
invariant-loop-entry l =
    let at_start = l.initial.values in
    let recover = fold (with_recovery l.cntlid l.rules.values) in
    (l.values.nn ≡ at_start.nn)
    × (recover l.values.values (map namespace_entry_view (drop l.entry-index l.entries))
    ≡ recover at_start.values (map namespace_entry_view l.entries))
