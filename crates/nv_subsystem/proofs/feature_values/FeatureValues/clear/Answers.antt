use Rattle.std.proofs.Common.{◌∙◌, ap, refl}
use Rattle.std.specs.FinMap as map_of
use Rattle.nv_subsystem.proofs.Words.{is_alone, ValueTable}
use Rattle.nv_subsystem.proofs.ValueTableLaws.{cleared, in_values, no_nsid_zero, over-empty}
use Rattle.nv_subsystem.proofs.feature_values.FeatureValues.clear.Goals as goal

pub invariant_of-self : goal.invariant_of-self
invariant_of-self c =
    let t = c.self.inside in
    let are = c.self.invariant in
    let nsids = over-empty 1 t.by_nsid.count t.by_nsid.first t.by_nsid.count are.nsids.first refl in
    rw c.clear.ensures (assumption (nsids, are))

pub returns : goal.returns
returns c =
    let t = c.self.inside in
    rw c.clear.ensures
    (ap (in_values t.by_nsid.count)
    (cleared t.by_nsid.values t.by_feature.values (no_nsid_zero t.by_nsid c.self.invariant.nsids))
    ∙ ap (λ (v : ValueTable). record v { values = map_of.retain_keys v.values is_alone }) c.self.view_is)
