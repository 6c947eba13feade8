use Rattle.std.proofs.Common.{◌≡◌, ◌∙◌, ap}
use Rattle.nv_subsystem.proofs.Words.{all_restored, default_of, first_value, recovery_key, ValueTable}
use Rattle.nv_subsystem.proofs.ValueTableLaws.{in_values, tables_restored, values_restored}
use Rattle.nv_subsystem.proofs.feature_values.FeatureValues.restore.Goals as goal

pub invariant_of-self : goal.invariant_of-self
invariant_of-self c =
    let t = c.self.inside in
    let rules = c.args.rules.now.values in
    let recovery : c.default_of-recovery.result ≡ (first_value rules (recovery_key 0)).current =
    c.default_of-recovery.ensures ∙ ap (λ r. default_of r 0) c.rule_of.ensures in
    tables_restored rules c.default_of-recovery.result t.by_nsid t.by_feature
    c.restore_recoveries.new.table c.restore_features.new.table c.self.invariant recovery
    c.restore_recoveries.ensures c.restore_features.ensures

pub returns : goal.returns
returns c =
    let t = c.self.inside in
    let rules = c.args.rules.now.values in
    let recovery : c.default_of-recovery.result ≡ (first_value rules (recovery_key 0)).current =
    c.default_of-recovery.ensures ∙ ap (λ r. default_of r 0) c.rule_of.ensures in
    (λ i. in_values (c.restore_recoveries.ensures.count i)
    (values_restored rules c.default_of-recovery.result t.by_nsid t.by_feature
    c.restore_recoveries.new.table c.restore_features.new.table c.self.invariant recovery
    c.restore_recoveries.ensures c.restore_features.ensures i))
    ∙ ap (λ (v : ValueTable). record v { values = all_restored rules v.values }) c.self.view_is
