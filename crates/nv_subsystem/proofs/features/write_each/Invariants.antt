use Rattle.std.proofs.Common.{◌≡◌, drop}
use Rattle.nv_subsystem.proofs.Words.{fold, with_value}
use Rattle.nv_subsystem.proofs.features.write_each.Given as goal

abbrev pub invariant-loop-nsid : goal.invariant-loop-nsid
invariant-loop-nsid l =
    let at_start = l.initial.values in
    let write = fold (with_value l.feature l.asked.value l.asked.save) in
    (l.values.nn ≡ at_start.nn)
    × (write l.values.values (drop l.nsid-index l.nsids) ≡ write at_start.values l.nsids)
