use Rattle.nv_script.proofs.Words.{err_from_is_err_and, refl}
use Rattle.nv_script.proofs.GreetingLaws.{greeted_leaves, stopped_there}
use Rattle.nv_script.proofs.listing.list_controller.Goals as goal

pub returns-in_err-keep-clause-left : goal.returns-in_err-keep-clause-left
returns-in_err-keep-clause-left g c w is =
    let first = c.admin.ensures in
    let e = err_from_is_err_and c.from_residual.result c.from_residual.ensures.1 in
    rw (e.1, e.2)
    (stopped_there
    (record { answered = first.answer; state = first.state; driver = first.driver; steps = first.steps }) w _ is
    c.requires.controller (Unit {0}) c.in_err-keep.field-0.0 _ c.keep.new.self c.in_err-keep.ensures.refused)

pub returns-clause-left : goal.returns-clause-left
returns-clause-left g c w is =
    let first = c.admin.ensures in
    let then = c.in_ok-attached.ensures in
    greeted_leaves (record { answered = first.answer; state = first.state; driver = first.driver; steps = first.steps })
    (record { answered = then.answer; state = then.state; driver = then.driver; steps = then.steps }) w _ _ is
    c.requires.controller c.in_ok-keep.ensures.kept c.list_namespaces.result c.in_ok-attached.attached
    c.nsids_in.result.now _ c.list_namespaces.new.driver _ c.list_namespaces.new.bus refl c.nsids_in.ensures
    c.list_namespaces.ensures.left
