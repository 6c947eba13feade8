use Rattle.std.proofs.Common.{◌≡◌, ℕ, ◌++◌, ◌∷◌, [], Err, refl, rules}
use Rattle.nv_file.specs.TableChecks.{feature_value}
use Rattle.nv_file.proofs.Words.{All-push, FeatureRule, fid_of, IsFeatureRule, Members}
use Rattle.nv_file.proofs.CheckLaws.{memory_or_fault}
use Rattle.nv_file.proofs.Distinct.{fresh_rule}
use Rattle.nv_file.proofs.ReadTo.{numbers_read, read_all, read_fails_unless_memory, read_more}
use Rattle.nv_file.proofs.feature_rule.features_of.Goals as goal

same_fid : (wctemp : ℕ) (m : Members) → (feature_value wctemp m).fid ≡ fid_of m
unfolding feature_value
same_fid wctemp m = refl

pub loop-table-preserved : goal.loop-table-preserved
loop-table-preserved c =
    let xs = c.loop-table.rules.items in
    let x = c.in_ok-rule.rule in
    let read = c.loop-table.invariant.read in
    let grown : c.push.new.self.items ≡ xs ++ x ∷ [] = c.in_ok-push.ensures.items in
    let new = rw c.deref.ensures.value at c.in_ok-rule.ensures.new in
    let is = rw (
      c.deref.ensures.value,
      numbers_read _ _ _ (λ (r : FeatureRule). r.fid)
          (same_fid c.args.wctemp) _ _ _ read,
    ) at c.in_ok-rule.ensures.exact in
    record {
      read = rw grown (read_more _ _ _ _ _ _ _ x read c.loop-table-test.true c.table-item.is is.0 is.1.0);
      sound = rw grown (All-push IsFeatureRule xs x c.loop-table.invariant.sound c.in_ok-rule.ensures.sound);
      fids = rw grown (fresh_rule xs x c.loop-table.invariant.fids new);
    }

pub returns-in_err-rule-clause-exact : goal.returns-in_err-rule-clause-exact
returns-in_err-rule-clause-exact c =
    let read = c.loop-table.invariant.read in
    let fails = rw (
      c.deref.ensures.value,
      numbers_read _ _ _ (λ (r : FeatureRule). r.fid)
          (same_fid c.args.wctemp) _ _ _ read,
    ) at c.in_err-rule.ensures.exact in
    let is : c.from_residual.result ≡ Err c.in_err-rule.field-0.0 = search rules in
    rw is (read_fails_unless_memory _ _ _ _ _ _ _ _ read c.loop-table-test.true c.table-item.is
    (memory_or_fault fails))

pub returns-clause-exact : goal.returns-clause-exact
returns-clause-exact c = read_all _ _ _ _ _ _ c.loop-table.invariant.read c.loop-table-test.false
