use Rattle.nv_script.proofs.Words.{err_from_is_err_and}
use Rattle.nv_script.proofs.QueryLaws.{no_text}
use Rattle.nv_script.proofs.performing.perform.Goals as goal

pub returns-in_err-write-in-One-clause-left : goal.returns-in_err-write-in-One-clause-left
returns-in_err-write-in-One-clause-left g c =
    let r = c.from_residual-in_err-write-in-One in
    let e = err_from_is_err_and r.result r.ensures.1 in
    rw (e.1, e.2) (no_text _ _ _ _ c.args.request.now _ c.in-One.is _ _ c.in_ok-reply-in-One.ensures.left)

pub returns-in_err-write-in-List-clause-left : goal.returns-in_err-write-in-List-clause-left
returns-in_err-write-in-List-clause-left g c =
    let r = c.from_residual-in_err-write-in-List in
    let e = err_from_is_err_and r.result r.ensures.1 in
    rw (e.1, e.2) (no_text _ _ _ _ c.args.request.now _ c.in-List.is _ _ c.in_ok-devices-in-List.ensures.left)
