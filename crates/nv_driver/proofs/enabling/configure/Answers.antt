use Rattle.nv_driver.proofs.Words.{ℕ, ◌≡◌, ReadsOther, arith, refl, subst}
use Rattle.nv_driver.proofs.enabling.configure.Goals as goal

pub returns-clause-steps : goal.returns-clause-steps
returns-clause-steps g c =
    let s = c.loop.invariant.steps in
    let all : c.loop.counter ≡ 16 = omega arith in (
      refl,
      (
        s.0,
        s.1,
        subst (λ (n : ℕ). ReadsOther g.B.AnyBus.was_read c.args.ctrl c.args.ready n s.0 c.loop.bus) all s.2,
      ),
    )
