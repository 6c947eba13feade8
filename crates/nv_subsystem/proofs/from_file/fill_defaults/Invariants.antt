use Rattle.std.proofs.Common.{◌≡◌, drop}
use Rattle.nv_subsystem.proofs.Words.{fold, with_default}
use Rattle.nv_subsystem.proofs.from_file.fill_defaults.Given as goal

abbrev pub invariant-loop-feature : goal.invariant-loop-feature
invariant-loop-feature l =
    let at_start = l.initial.values in
    let give = fold (with_default l.rules.values l.vwc) in
    (l.values.nn ≡ at_start.nn)
    × (give l.values.values (drop l.feature-index l.features) ≡ give at_start.values l.features)
