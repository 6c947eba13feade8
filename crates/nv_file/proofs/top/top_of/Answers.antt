use Rattle.std.proofs.Common.{◌≡◌, ◌≤◌, arith, false, le-leb, length, nat_le, true}
use Rattle.nv_file.specs.declared.key.Key.TheVariants as key
use Rattle.nv_file.specs.File.{nn_of, top_checks}
use Rattle.nv_file.specs.KeyChecks.{tables_at}
use Rattle.nv_file.proofs.Words.{common_steps, length-map, table_view, tables_view}
use Rattle.nv_file.proofs.CheckLaws.{faults}
use Rattle.nv_file.proofs.KeyLaws.{was_out_of_limits}
use Rattle.nv_file.proofs.top.top_of.Goals as goal

pub returns-in_err-in_limits-clause-exact : goal.returns-in_err-in_limits-clause-exact
unfolding top_checks
returns-in_err-in_limits-clause-exact c =
    let m = table_view c.args.table.now in
    let outside = was_out_of_limits _ _ _ _ c.in_err-in_limits.ensures.exact in
    let many : nat_le (length (tables_view c.in_ok-namespaces.namespaces.items)) c.in_ok-nn.field-0 ≡ false =
    grind (arith, common_steps, outside) in
    let over : nat_le (length (tables_at key.Namespace m)) (nn_of m) ≡ false =
    rw (c.in_ok-namespaces.ensures.1, c.in_ok-nn.ensures.exact.1) at many in
    grind (arith, faults, over)

pub returns-in_err-only_known-clause-exact : goal.returns-in_err-only_known-clause-exact
unfolding top_checks
returns-in_err-only_known-clause-exact c =
    let m = table_view c.args.table.now in
    let few : length (tables_view c.in_ok-namespaces.namespaces.items) ≤ c.in_ok-nn.field-0 =
    grind (arith, common_steps) in
    let within : nat_le (length (tables_at key.Namespace m)) (nn_of m) ≡ true =
    rw (c.in_ok-namespaces.ensures.1, c.in_ok-nn.ensures.exact.1) at (le-leb _ _ few) in
    grind (arith, faults, within)

pub returns-clause-exact : goal.returns-clause-exact
unfolding top_checks
returns-clause-exact c =
    let m = table_view c.args.table.now in
    let few : length (tables_view c.in_ok-namespaces.namespaces.items) ≤ c.in_ok-nn.field-0 =
    grind (arith, common_steps) in
    let within : nat_le (length (tables_at key.Namespace m)) (nn_of m) ≡ true =
    rw (c.in_ok-namespaces.ensures.1, c.in_ok-nn.ensures.exact.1) at (le-leb _ _ few) in
    grind (arith, faults, within)

pub returns-clause-sound : goal.returns-clause-sound
returns-clause-sound c = record {
  version = c.in_ok-version.ensures.range;
  keys = record {
    nn = c.in_ok-nn.ensures.range;
    tnvmcap = c.in_ok-tnvmcap.ensures.range.1;
    mc = c.in_ok-mc.ensures.range.1;
    subnqn = c.in_ok-subnqn.ensures.sound;
  };
  formats = simp length-map c.in_ok-formats.ensures.count;
  controllers = simp length-map c.in_ok-controllers.ensures.count;
  namespaces = grind (arith, common_steps);
}
