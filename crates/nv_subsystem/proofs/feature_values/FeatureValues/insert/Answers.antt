use Rattle.std.proofs.Common.{◌≡◌, ◌∙◌, ap, sym, subst, arith, true}
use Rattle.std.specs.FinMap as map_of
use Rattle.nv_subsystem.proofs.Words.{IsOf, key_of, row_of, values_of, ValueTable}
use Rattle.nv_subsystem.proofs.ValueTableLaws.{in_values, inserted_feature, inserted_recovery, over-insert, still_apart}
use Rattle.nv_subsystem.proofs.feature_values.FeatureValues.insert.Goals as goal

pub invariant_of-self : goal.invariant_of-self
invariant_of-self c =
    let t = c.self.inside in
    let a = c.args in
    let are = c.self.invariant in
    let per : (row_of a.feature).per_namespace ≡ true = sym c.is_per_namespace.ensures ∙ c.if-is_per_namespace.true in
    let within = subst (λ m. IsOf 1 m a.nsid) (sym (ap (λ (v : ValueTable). v.nn) c.self.view_is))
    (c.requires.in_range per) in
    let nsids = over-insert 1 t.by_nsid.count t.by_nsid are.nsids a.nsid a.value within in
    rw c.insert.ensures (assumption (nsids, are))

pub invariant_of-self-else-is_per_namespace : goal.invariant_of-self-else-is_per_namespace
invariant_of-self-else-is_per_namespace c =
    let t = c.self.inside in
    let a = c.args in
    let are = c.self.invariant in
    let alone = sym c.is_per_namespace.ensures ∙ c.if-is_per_namespace.false in
    rw c.insert-else-is_per_namespace.ensures (record {
      nsids = are.nsids;
      rows = over-insert 0 384 t.by_feature are.rows c.place.result a.value (omega arith, c.place.ensures.within);
      apart = rw c.place.ensures.value (still_apart t.by_nsid t.by_feature a.feature a.nsid a.selector c.requires.known
          a.value alone are);
    })

pub returns-then-is_per_namespace : goal.returns-then-is_per_namespace
returns-then-is_per_namespace c =
    let t = c.self.inside in
    let a = c.args in
    let k = key_of a.feature a.nsid a.selector in
    let per = sym c.is_per_namespace.ensures ∙ c.if-is_per_namespace.true in
    rw c.insert.ensures
    (ap (in_values t.by_nsid.count)
    (inserted_recovery t.by_nsid t.by_feature a.feature a.nsid a.selector c.requires.known a.value per)
    ∙ ap (λ (v : ValueTable). record v { values = map_of.insert v.values k a.value }) c.self.view_is)

pub returns-else-is_per_namespace : goal.returns-else-is_per_namespace
returns-else-is_per_namespace c =
    let t = c.self.inside in
    let a = c.args in
    let k = key_of a.feature a.nsid a.selector in
    let alone = sym c.is_per_namespace.ensures ∙ c.if-is_per_namespace.false in
    rw c.insert-else-is_per_namespace.ensures
    (ap (in_values t.by_nsid.count)
    (ap (λ n. values_of t.by_nsid.values (map_of.insert t.by_feature.values n a.value)) c.place.ensures.value
    ∙ inserted_feature t.by_nsid t.by_feature a.feature a.nsid a.selector c.requires.known a.value alone)
    ∙ ap (λ (v : ValueTable). record v { values = map_of.insert v.values k a.value }) c.self.view_is)
