use Rattle.nv_script.proofs.Words.{Err, Ok, err_from_is_err_and}
use Rattle.nv_script.proofs.QueryLaws.{log_left, reset_left, send_left}
use Rattle.nv_script.proofs.performing.last_reply.Goals as goal

pub returns-in_err-admin-in-Send-clause-left : goal.returns-in_err-admin-in-Send-clause-left
returns-in_err-admin-in-Send-clause-left g c =
    let done = c.in_err-admin-in-Send.ensures in
    let e = err_from_is_err_and c.from_residual.result c.from_residual.ensures.1 in
    rw (e.1, e.2, c.in-Send.is)
    (send_left (Err c.in_err-admin-in-Send.field-0.0)
    (record { answered = done.answer; state = done.state; driver = done.driver; steps = done.steps })
    c.requires.known.controller)

pub returns-in_ok-admin-in-Send-clause-left : goal.returns-in_ok-admin-in-Send-clause-left
returns-in_ok-admin-in-Send-clause-left g c =
    let done = c.in_ok-admin-in-Send.ensures in
    rw c.in-Send.is
    (send_left (Ok c.in_ok-admin-in-Send.field-0)
    (record { answered = done.answer; state = done.state; driver = done.driver; steps = done.steps })
    c.requires.known.controller)

pub returns-in_err-admin-in-ErrorLog-clause-left : goal.returns-in_err-admin-in-ErrorLog-clause-left
returns-in_err-admin-in-ErrorLog-clause-left g c =
    let first = c.in_ok-identity-in-ErrorLog.ensures in
    let done = c.in_err-admin-in-ErrorLog.ensures in
    let r = c.from_residual-in_err-admin-in-ErrorLog in
    let e = err_from_is_err_and r.result r.ensures.1 in
    rw (e.1, e.2, c.in-ErrorLog.is)
    (log_left (record { answered = first.answer; state = first.state; driver = first.driver; steps = first.steps })
    c.requires.known.controller _ c.log_command-command.ensures.command (Err c.in_err-admin-in-ErrorLog.field-0.0)
    (record { answered = done.answer; state = done.state; driver = done.driver; steps = done.steps }))

pub returns-in_ok-admin-in-ErrorLog-clause-left : goal.returns-in_ok-admin-in-ErrorLog-clause-left
returns-in_ok-admin-in-ErrorLog-clause-left g c =
    let first = c.in_ok-identity-in-ErrorLog.ensures in
    let done = c.in_ok-admin-in-ErrorLog.ensures in
    rw c.in-ErrorLog.is
    (log_left (record { answered = first.answer; state = first.state; driver = first.driver; steps = first.steps })
    c.requires.known.controller _ c.log_command-command.ensures.command (Ok c.in_ok-admin-in-ErrorLog.field-0)
    (record { answered = done.answer; state = done.state; driver = done.driver; steps = done.steps }))

pub returns-in-Ok-clause-left : goal.returns-in-Ok-clause-left
returns-in-Ok-clause-left g c =
    let done = c.reset.ensures in
    rw c.in-Reset.is (reset_left _ _ _ _ _ _ _ _ done.state done.driver done.steps)
