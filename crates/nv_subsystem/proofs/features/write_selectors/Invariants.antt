use Rattle.std.proofs.Common.{◌≡◌, drop, map}
use Rattle.nv_subsystem.proofs.Words.{changed, key_of, write}
use Rattle.nv_subsystem.proofs.features.write_selectors.Given as goal

abbrev pub invariant-loop-selector : goal.invariant-loop-selector
invariant-loop-selector l =
    let at_start = l.initial.values in
    let keys = map (key_of l.feature l.nsid) in
    let write_all = changed (write l.feature l.asked.value l.asked.save) in
    (l.values.nn ≡ at_start.nn)
    × (write_all (keys (drop l.selector-index l.selectors)) l.values.values
    ≡ write_all (keys l.selectors) at_start.values)
