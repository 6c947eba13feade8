use Rattle.std.proofs.Common.{◌≡◌, drop}
use Rattle.nv_subsystem.proofs.Words.{fold, with_rule}
use Rattle.nv_subsystem.proofs.from_file.fill_rules.Given as goal

abbrev pub invariant-loop-rule : goal.invariant-loop-rule
invariant-loop-rule l =
    let at_start = l.initial.slots in
    (l.slots.first ≡ at_start.first) × (l.slots.count ≡ at_start.count)
    × (fold with_rule l.slots.values (drop l.rule-index l.rules) ≡ fold with_rule at_start.values l.rules)
