use Rattle.std.proofs.Common.{ap, refl}
use Rattle.nv_bus.proofs.TurnLaws.{bank_turn_count}
use Rattle.nv_controller.proofs.Words.{ready_bank, Scene, site, untagged}
use Rattle.nv_controller.proofs.machine.turn_bank.Goals as goal

pub returns-in-Ready-clause-turn : goal.returns-in-Ready-clause-turn
returns-in-Ready-clause-turn g c =
    let t = c.take_entries-count in
    rw (c.in-Ready.is, c.if-not-fatal.true) (_, t.result.1, t.ensures.turn, refl)

pub returns-in-Ready-clause-count : goal.returns-in-Ready-clause-count
returns-in-Ready-clause-count g c =
    bank_turn_count _ _ _ _
    (site (untagged c.args.subsystem.now) c.args.bank.now (g.M.PagedMemory.bytes c.args.mem.now))
    _ (returns-in-Ready-clause-turn g c)

pub returns-in-Ready-clause-tagged : goal.returns-in-Ready-clause-tagged
returns-in-Ready-clause-tagged g c =
    let t = c.take_entries-count in
    let last = λ (x : Scene). site x.state (ready_bank c.args.bank.now x.rings t.result.1) x.bytes in
    rw (c.in-Ready.is, c.if-not-fatal.true) (t.result.1, ap last t.ensures.tagged)

pub returns-in-Ready-clause-shown : goal.returns-in-Ready-clause-shown
returns-in-Ready-clause-shown g c = rw c.in-Ready.is c.take_entries-count.ensures.shown
