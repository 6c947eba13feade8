use Rattle.std.proofs.Common.{◌≡◌, drop, map}
use Rattle.nv_subsystem.proofs.Words.{changed, fill, key_of}
use Rattle.nv_subsystem.proofs.from_file.fill_selectors.Given as goal

abbrev pub invariant-loop-selector : goal.invariant-loop-selector
invariant-loop-selector l =
    let at_start = l.initial.values in
    let keys = map (key_of l.feature 0) in
    let fill_all = changed (fill l.rules.values) in
    (l.values.nn ≡ at_start.nn)
    × (fill_all (keys (drop l.selector-index l.selectors)) l.values.values
    ≡ fill_all (keys l.selectors) at_start.values)
