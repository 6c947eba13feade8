use Rattle.nv_driver.proofs.Words.{◌∙◌, Geometry, IsGeometry, QueuePair, RegisterBank, ap, arith, is_ready, mps_of}
use Rattle.nv_driver.proofs.Words.{pair_of, refl, subst}
use Rattle.nv_driver.proofs.RegisterLaws.{enabled_banks, is_off, not_stopped, started, stopped}
use Rattle.nv_driver.proofs.BringingUpLaws.{configured, zeroes_own}
use Rattle.nv_driver.proofs.ResetLaws.{kept_again, left_again, resets, zeroed_length, zeroed_others}
use Rattle.nv_driver.proofs.enabling.reset.Goals as goal

pub configure-requires-2-clause-follows : goal.configure-requires-2-clause-follows
configure-requires-2-clause-follows g c lawful =
    let r = c.requires.ready in
    let off = c.configure.ensures.banks lawful in
    let is = c.geometry.view_is in
    let m = c.mps.ensures.value ∙ ap (λ (q : Geometry). mps_of q.page_size) is in
    ap (λ (p : RegisterBank). is_ready p.readiness) (started _ _ _ c.args.ctrl _ r.controller off
    (kept_again r c.requires.placed _ off) c.args.geometry _ (subst IsGeometry is c.geometry.invariant) refl
    (omega (arith, m, c.mps.ensures.few)))

pub returns-clause-state : goal.returns-clause-state
returns-clause-state g c lawful =
    let r = c.requires.ready in
    let off = c.configure.ensures.banks lawful in
    c.configure-2.ensures.state lawful
    ∙ not_stopped _ c.args.ctrl _ (is_off _ _ _ c.args.ctrl (pair_of c.args.geometry c.args.ctrl) r.controller off
    (kept_again r c.requires.placed _ off))
    ∙ c.configure.ensures.state lawful ∙ stopped _ c.args.ctrl r.controller ∙ resets r

pub returns-clause-left : goal.returns-clause-left
returns-clause-left g c lawful =
    let r = c.requires.ready in
    let off = c.configure.ensures.banks lawful in
    let is = c.geometry.view_is in
    let m = c.mps.ensures.value ∙ ap (λ (q : Geometry). mps_of q.page_size) is in
    let zeroed = c.renew.ensures.bytes in
    left_again r c.requires.placed c.renew.ensures.page c.renew.ensures.quiet c.renew.ensures.pair
    (zeroed_length _ _ r.quiet r.laid zeroed) c.renew.ensures.tags (zeroed_others _ _ r.quiet r.laid zeroed _)
    (c.configure-2.ensures.bus lawful (c.configure.ensures.bus lawful r.bus))
    (enabled_banks _ _ _ c.args.ctrl _ r.controller off (kept_again r c.requires.placed _ off) c.args.geometry _
    (subst IsGeometry is c.geometry.invariant) refl (omega (arith, m, c.mps.ensures.few)) _
    (c.configure-2.ensures.banks lawful))

pub returns-clause-steps : goal.returns-clause-steps
returns-clause-steps g c =
    let r = c.requires.ready in
    let is = c.geometry.view_is in
    let m = c.mps.ensures.value ∙ ap (λ (q : Geometry). mps_of q.page_size) is in
    let zeroed = zeroes_own g.B.Zeroing.was_zeroed c.args.geometry c.args.ctrl r.quiet
    (ap (λ (v : QueuePair). v.cq) c.requires.placed) r.depth c.renew.ensures.zeroed in
    configured g.B.AnyBus.was_written g.B.AnyBus.was_read c.args.ctrl _ _ _ _ c.configure-2.result _
    (omega (arith, m, c.mps.ensures.few)) (λ last. (_, c.in_ok-configure.ensures.steps, zeroed, last))
    (λ last. (_, _, _, _, last)) c.configure-2.ensures.steps
