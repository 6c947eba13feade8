use Rattle.std.proofs.Common.{◌≡◌, ◌++◌, ◌∷◌, [], Err, map, arith, refl, rules}
use Rattle.nv_file.specs.TableChecks.{controller_value, identity_value}
use Rattle.nv_file.proofs.Words.{All-push, cntlid_of, common_steps, controller_entry_view, ControllerValue}
use Rattle.nv_file.proofs.Words.{IsControllerEntry, map_push, Members}
use Rattle.nv_file.proofs.Distinct.{fresh_controller}
use Rattle.nv_file.proofs.ReadTo.{numbers_viewed, read_all, read_fails_unless_memory, read_more}
use Rattle.nv_file.proofs.controller.controller_entries_of.Goals as goal

same_cntlid : (m : Members) → (controller_value m).identity.cntlid ≡ cntlid_of m
unfolding controller_value identity_value
same_cntlid m = refl

pub loop-table-preserved : goal.loop-table-preserved
loop-table-preserved c =
    let xs = c.loop-table.controllers.items in
    let x = c.in_ok-controller.controller in
    let read = c.loop-table.invariant.read in
    let grown : c.push.new.self.items ≡ xs ++ x ∷ [] = c.in_ok-push.ensures.items in
    let new = rw c.deref.ensures.value at c.in_ok-controller.ensures.new in
    let is = rw (
      c.deref.ensures.value,
      numbers_viewed _ _ _ controller_entry_view
          (λ (v : ControllerValue). v.identity.cntlid) same_cntlid _ _ xs read,
    ) at c.in_ok-controller.ensures.exact in
    record {
      read = rw (grown, map_push controller_entry_view xs x)
          (read_more _ _ _ _ _ _ _ _ read c.loop-table-test.true c.table-item.is is.0 is.1);
      count = grind (arith, common_steps);
      sound = rw (grown, map_push controller_entry_view xs x)
          (All-push IsControllerEntry (map controller_entry_view xs) (controller_entry_view x)
          c.loop-table.invariant.sound c.in_ok-controller.ensures.sound);
      cntlids = rw grown (fresh_controller xs x c.loop-table.invariant.cntlids new);
    }

pub returns-in_err-controller-clause-exact : goal.returns-in_err-controller-clause-exact
returns-in_err-controller-clause-exact c =
    let xs = c.loop-table.controllers.items in
    let read = c.loop-table.invariant.read in
    let fails = rw (
      c.deref.ensures.value,
      numbers_viewed _ _ _ controller_entry_view
          (λ (v : ControllerValue). v.identity.cntlid) same_cntlid _ _ xs read,
    ) at c.in_err-controller.ensures.exact in
    let is : c.from_residual.result ≡ Err c.in_err-controller.field-0.0 = search rules in
    rw is (read_fails_unless_memory _ _ _ _ _ _ _ _ read c.loop-table-test.true c.table-item.is fails)

pub returns-clause-exact : goal.returns-clause-exact
returns-clause-exact c = read_all _ _ _ _ _ _ c.loop-table.invariant.read c.loop-table-test.false
