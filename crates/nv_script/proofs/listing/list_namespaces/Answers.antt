use Rattle.nv_script.proofs.Words.{[], ◌++◌, ◌∙◌, ◌∷◌, ◌≡◌, Ok, ap, append-nil, arith, asking_for, common_steps, drop}
use Rattle.nv_script.proofs.Words.{err_from_is_err_and, namespace_batches, refl, rules, take}
use Rattle.nv_script.proofs.GoingLaws.{goes-append}
use Rattle.nv_script.proofs.GroupLaws.{group_next, groups_left}
use Rattle.nv_script.proofs.ListLaws.{leaves_after, listed_all, stopped_within}
use Rattle.nv_script.proofs.listing.list_namespaces.Goals as goal

pub returns-in_err-list_batch-clause-left : goal.returns-in_err-list_batch-clause-left
returns-in_err-list_batch-clause-left g c w is =
    let h = c.loop-rest.invariant.left in
    let rest = c.loop-rest.rest.now in
    let e = err_from_is_err_and c.from_residual.result c.from_residual.ensures.1 in
    let reached = h.2 w is in
    rw (e.1, e.2)
    (stopped_within w h.0 (namespace_batches c.args.ctrl c.args.nsids.now) _ _
    (λ bs. goes-append _ h.0 bs _ _ _ _ _ _ reached.gone) (Unit {0}) c.in_err-list_batch.field-0.0 _
    (namespace_batches c.args.ctrl (drop c.min-count.result rest)) _ _ _
    (group_next c.args.ctrl _ h.0 rest c.min-count.result (search rules) (search rules) h.1)
    (c.in_err-list_batch.ensures.left _ reached.listed))

pub loop-rest-preserved : goal.loop-rest-preserved
loop-rest-preserved g c =
    let h = c.loop-rest.invariant.left in
    let rest = c.loop-rest.rest.now in
    let these = asking_for c.args.ctrl (take c.min-count.result rest) ∷ [] in
    record {
      linked = c.list_batch.ensures.linked;
      pairs = c.list_batch.ensures.pairs ∙ c.loop-rest.invariant.pairs;
      left = (
        h.0 ++ these,
        groups_left c.args.ctrl _ h.0 rest c.min-count.result (search rules) (search rules) h.1,
        λ w is.
            let reached = h.2 w is in
            leaves_after w h.0 (h.0 ++ these) _ _ (λ bs. goes-append _ h.0 bs _ _ _ _ _ _ reached.gone) (Ok (tt {0}))
            these _ _ _ refl (c.in_ok-list_batch.ensures.left _ reached.listed),
      );
    }

pub returns-clause-left : goal.returns-clause-left
returns-clause-left g c w is =
    let h = c.loop-rest.invariant.left in
    let none : c.loop-rest.rest.now ≡ [] = first_of (search rules, grind (arith, common_steps)) in
    listed_all w h.0 _ (h.1 ∙ ap (λ ns. h.0 ++ namespace_batches c.args.ctrl ns) none ∙ append-nil h.0) (h.2 w is)
