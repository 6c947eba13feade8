use Rattle.nv_driver.proofs.Words.{◌∙◌, Geometry, IsGeometry, QueuePair, RegisterBank, ap, arith, is_ready, mps_of}
use Rattle.nv_driver.proofs.Words.{refl, subst}
use Rattle.nv_driver.proofs.RegisterLaws.{enabled_banks, started}
use Rattle.nv_driver.proofs.BringingUpLaws.{configured, zeroes_own}
use Rattle.nv_driver.proofs.ResetLaws.{zeroed_length, zeroed_others}
use Rattle.nv_driver.proofs.enabling.enable.Goals as goal

pub configure-requires-2-clause-follows : goal.configure-requires-2-clause-follows
configure-requires-2-clause-follows g c lawful =
    let is = c.geometry.view_is in
    let m = c.mps.ensures.value ∙ ap (λ (q : Geometry). mps_of q.page_size) is in
    ap (λ (p : RegisterBank). is_ready p.readiness) (started _ _ _ c.args.ctrl _ (c.requires.ctrl lawful)
    (c.configure.ensures.banks lawful) (c.set_queues.ensures.banks lawful) c.args.geometry _
    (subst IsGeometry is c.geometry.invariant) refl (omega (arith, m, c.mps.ensures.few)))

pub returns-clause-banks : goal.returns-clause-banks
returns-clause-banks g c lawful =
    let is = c.geometry.view_is in
    let m = c.mps.ensures.value ∙ ap (λ (q : Geometry). mps_of q.page_size) is in
    enabled_banks _ _ _ c.args.ctrl _ (c.requires.ctrl lawful) (c.configure.ensures.banks lawful)
    (c.set_queues.ensures.banks lawful) c.args.geometry _ (subst IsGeometry is c.geometry.invariant) refl
    (omega (arith, m, c.mps.ensures.few)) _ (c.configure-2.ensures.banks lawful)

pub returns-clause-others : goal.returns-clause-others
returns-clause-others g c = zeroed_others _ _ c.requires.quiet c.requires.laid c.zero.ensures.bytes _

pub returns-clause-len : goal.returns-clause-len
returns-clause-len g c = zeroed_length _ _ c.requires.quiet c.requires.laid c.zero.ensures.bytes

pub returns-clause-steps : goal.returns-clause-steps
returns-clause-steps g c =
    let is = c.geometry.view_is in
    let m = c.mps.ensures.value ∙ ap (λ (q : Geometry). mps_of q.page_size) is in
    let its = c.requires.pair in
    let zeroed = zeroes_own g.B.Zeroing.was_zeroed c.args.geometry c.args.ctrl c.requires.quiet
    (ap (λ (v : QueuePair). v.cq) its) (ap (λ (v : QueuePair). v.depth) its) c.zero.ensures.zeroed in
    configured g.B.AnyBus.was_written g.B.AnyBus.was_read c.args.ctrl _ _ _ _ c.configure-2.result _
    (omega (arith, m, c.mps.ensures.few))
    (λ last. (_, _, c.in_ok-configure.ensures.steps, zeroed, c.set_queues.ensures.steps, last))
    (λ last. (_, _, _, _, last)) c.configure-2.ensures.steps
