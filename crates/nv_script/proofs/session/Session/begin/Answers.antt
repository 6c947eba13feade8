use Rattle.nv_script.proofs.Words.{err_from_is_err_and, geometry_fault, refl}
use Rattle.nv_script.proofs.LinkLaws.{first_session}
use Rattle.nv_script.proofs.RunLaws.{without}
use Rattle.nv_driver.proofs.LinkedLaws as W
use Rattle.nv_script.proofs.session.Session.begin.Goals as goal

pub returns-in_err-driver-clause-fault : goal.returns-in_err-driver-clause-fault
returns-in_err-driver-clause-fault g c =
    let e = err_from_is_err_and c.from_residual.result c.from_residual.ensures.1 in
    let why = W.without c.args.geometry c.in_err-driver.field-0.0 c.in_err-driver.ensures.brought.geometry
    c.in_err-driver.ensures.brought.ready in
    rw e.1 (without (geometry_fault c.args.geometry) c.in_err-driver.field-0.0 _ why e.2)

pub returns-clause-fault : goal.returns-clause-fault
returns-clause-fault g c = W.without_fault c.args.geometry _ c.in_ok-driver.ensures.brought.geometry

pub returns-clause-first : goal.returns-clause-first
returns-clause-first g c =
    first_session c.args.geometry (g.B.Bus.meaning c.args.bus.now) (g.B.Bus.meaning c.bring_up.new.bus)
    c.in_ok-driver.driver _ c.in_ok-driver.ensures.brought.linked c.in_ok-driver.ensures.brought.driver refl refl refl
