use Rattle.std.proofs.Common.{◌∙◌, ap, sym}
use Rattle.std.specs.FinMap as map_of
use Rattle.nv_subsystem.proofs.Words.{key_of, ValueTable}
use Rattle.nv_subsystem.proofs.ValueTableLaws.{got_feature, got_recovery}
use Rattle.nv_subsystem.proofs.feature_values.FeatureValues.get.Goals as goal

pub returns-then-is_per_namespace-clause-value : goal.returns-then-is_per_namespace-clause-value
returns-then-is_per_namespace-clause-value c =
    let t = c.self.inside in
    let a = c.args in
    c.get.ensures.value
    ∙ sym (got_recovery t.by_nsid t.by_feature a.feature a.nsid a.selector c.requires c.self.invariant
    (sym c.is_per_namespace.ensures ∙ c.if-is_per_namespace.true))
    ∙ ap (λ (v : ValueTable). map_of.get v.values (key_of a.feature a.nsid a.selector)) c.self.view_is

pub returns-else-is_per_namespace-clause-value : goal.returns-else-is_per_namespace-clause-value
returns-else-is_per_namespace-clause-value c =
    let t = c.self.inside in
    let a = c.args in
    c.get-else-is_per_namespace.ensures.value
    ∙ ap (map_of.get t.by_feature.values) c.place.ensures.value
    ∙ sym (got_feature t.by_nsid t.by_feature a.feature a.nsid a.selector c.requires
    (sym c.is_per_namespace.ensures ∙ c.if-is_per_namespace.false))
    ∙ ap (λ (v : ValueTable). map_of.get v.values (key_of a.feature a.nsid a.selector)) c.self.view_is
