use Rattle.std.proofs.Common.{◌∙◌, ap}
use Rattle.std.specs.FinMap as map_of
use Rattle.nv_subsystem.proofs.Words.{recovery_key, ValueTable}
use Rattle.nv_subsystem.proofs.ValueTableLaws.{in_values, over-remove, removed_nsid}
use Rattle.nv_subsystem.proofs.feature_values.FeatureValues.remove.Goals as goal

pub invariant_of-self : goal.invariant_of-self
invariant_of-self c =
    let t = c.self.inside in
    let nsids = over-remove 1 t.by_nsid.count t.by_nsid c.self.invariant.nsids c.args.nsid in
    rw c.remove.ensures.values (assumption (nsids, c.self.invariant))

pub returns : goal.returns
returns c =
    let t = c.self.inside in
    rw c.remove.ensures.values
    (ap (in_values t.by_nsid.count)
    (removed_nsid t.by_nsid.values t.by_feature.values c.self.invariant.apart c.args.nsid)
    ∙ ap (λ (v : ValueTable). record v { values = map_of.remove v.values (recovery_key c.args.nsid) })
    c.self.view_is)
