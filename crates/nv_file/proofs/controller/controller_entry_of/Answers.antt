use Rattle.std.proofs.Common.{◌≡◌, ◌∙◌, inl, inr, Err, List, ap, map, refl, rules}
use Rattle.nv_file.specs.declared.key.Key.TheVariants as key
use Rattle.nv_model.specs.IdentityView.{identity_view}
use Rattle.nv_model.specs.State.{Identity}
use Rattle.nv_model.specs.declared.identity.Identity.{Identity as CodeIdentity}
use Rattle.nv_model.specs.declared.smart_base.SmartBase.{SmartBase}
use Rattle.nv_file.specs.KeyChecks.{number_at, table_at, tables_at}
use Rattle.nv_file.specs.TableChecks.{controller_checks, controller_value, feature_value, identity_value, numbers_value}
use Rattle.nv_file.proofs.Words.{ControllerValue, FeatureRule, Members, table_view}
use Rattle.nv_file.proofs.CheckLaws.{past}
use Rattle.nv_file.proofs.controller.controller_entry_of.Goals as goal

same_wctemp : (i : CodeIdentity) (m : Members) → identity_view i ≡ identity_value m
    → i.numbers.wctemp ≡ number_at key.Wctemp 343 m
unfolding identity_value numbers_value
same_wctemp i m h = ap (λ (v : Identity). v.numbers.wctemp) h

same_parts : (i j : Identity) (r s : List FeatureRule) (a b : SmartBase) → i ≡ j → r ≡ s → a ≡ b
    → ◌≡◌ {A = ControllerValue} (record { identity = i; rules = r; smart = a })
    (record { identity = j; rules = s; smart = b })
same_parts i j r s a b x y z = rw (x, y, z) refl

pub returns-in_err-smart-2-clause-exact : goal.returns-in_err-smart-2-clause-exact
unfolding controller_checks table_at
returns-in_err-smart-2-clause-exact c =
    let features = c.in_ok-features.ensures in
    let smart = c.in_ok-smart.ensures in
    let rules_are = rw (c.deref.ensures.value, features.1) at c.in_ok-rules.ensures.exact in
    let fails = rw smart.1 at c.in_err-smart-2.ensures.exact in
    let is : c.from_residual-in_err-smart-2.result ≡ Err c.in_err-smart-2.field-0.0 = search rules in
    rw is (elim fails [
      | inl memory ↦ inl memory
      | inr fault ↦ inr (past _ _ _ (past _ _ _ (past _ _ _ (past _ _ _ (past _ _ _
          c.in_ok-identity.ensures.exact.0 features.0) smart.0) c.in_ok-only_known.ensures) rules_are.0) fault)
    ])

pub returns-clause-exact : goal.returns-clause-exact
unfolding controller_checks controller_value table_at
returns-clause-exact c =
    let m = table_view c.args.table.now in
    let identity = c.in_ok-identity.ensures.exact in
    let features = c.in_ok-features.ensures in
    let smart = c.in_ok-smart.ensures in
    let rules_are = rw (c.deref.ensures.value, features.1) at c.in_ok-rules.ensures.exact in
    let log = rw smart.1 at c.in_ok-smart-2.ensures.exact in
    let wctemp = same_wctemp c.in_ok-identity.identity m identity.1.0 in (
      past _ _ _ (past _ _ _ (past _ _ _ (past _ _ _ (past _ _ _ identity.0 features.0) smart.0)
          c.in_ok-only_known.ensures) rules_are.0) log.0,
      same_parts _ _ _ _ _ _ identity.1.0
          (rules_are.1 ∙ ap (λ n. map (feature_value n) (tables_at key.Feature m)) wctemp) log.1,
    )

pub returns-clause-sound : goal.returns-clause-sound
returns-clause-sound c = record {
  identity = c.in_ok-identity.ensures.sound;
  rules = c.in_ok-rules.ensures.sound;
  fids = c.in_ok-rules.ensures.fids;
  smart = c.in_ok-smart-2.ensures.sound;
}
