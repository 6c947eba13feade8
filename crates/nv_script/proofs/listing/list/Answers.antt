use Rattle.nv_script.proofs.Words.{[], ◌-◌, ◌∙◌, ◌≡◌, alike-self, ap, arith, batches_of_controller, err_from_is_err_and}
use Rattle.nv_script.proofs.Words.{flat_map, length, next_cids_of, range_with_len, refl}
use Rattle.nv_script.proofs.GoingLaws.{goes-append}
use Rattle.nv_script.proofs.ListedLaws.{all_listed, asked_one_more, stopped_at}
use Rattle.nv_script.proofs.listing.list.Goals as goal

pub returns-in_err-list_controller-clause-left : goal.returns-in_err-list_controller-clause-left
returns-in_err-list_controller-clause-left g c =
    let h = c.loop-ctrl.invariant.left in
    let e = err_from_is_err_and c.from_residual.result c.from_residual.ensures.1 in
    rw (e.1, e.2)
    (stopped_at _ (next_cids_of c.args.driver.now) c.requires.linked.bus.state h c.loop-ctrl-test.true _ _ _ _ _
    (λ bs. goes-append _ h.done bs _ _ _ _ _ _ h.listed.gone) (Unit {0}) c.in_err-list_controller.field-0.0
    (c.in_err-list_controller.ensures.left _ h.listed.listed))

pub loop-ctrl-preserved : goal.loop-ctrl-preserved
loop-ctrl-preserved g c =
    let inv = c.loop-ctrl.invariant in
    let h = inv.left in
    record {
      linked = c.list_controller.ensures.linked;
      pairs = c.list_controller.ensures.pairs ∙ inv.pairs;
      left = asked_one_more _ (next_cids_of c.args.driver.now) c.requires.linked.bus.state h c.loop-ctrl-test.true
          _ _ _ _ _ (λ bs. goes-append _ h.done bs _ _ _ _ _ _ h.listed.gone) inv.linked.bus.state
          (c.in_ok-list_controller.ensures.left _ h.listed.listed);
    }

pub returns-clause-left : goal.returns-clause-left
returns-clause-left g c =
    all_listed _ (next_cids_of c.args.driver.now) c.requires.linked.bus.state c.loop-ctrl-test.false
    c.loop-ctrl.invariant.left

pub loop-ctrl-init : goal.loop-ctrl-init
loop-ctrl-init g c =
    let s = (g.B.Bus.meaning c.args.bus.now).state in
    let n = c.controllers-ctrl-end.result in
    let many : length s.controllers ≡ n - 0 =
    omega (arith, c.controllers-ctrl-end.ensures, c.requires.linked.bus.banks) in
    record {
      linked = c.requires.linked;
      pairs = refl;
      left = record {
        alike = alike-self s;
        done = [];
        split = ap (λ m. flat_map (batches_of_controller s) (range_with_len 0 m)) many;
        listed = record {
          listed = record { subsystem = refl; next = refl; listed = c.new-listing.ensures };
          gone = (refl, refl);
        };
      };
    }
