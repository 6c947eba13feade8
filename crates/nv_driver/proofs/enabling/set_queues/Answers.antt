use Rattle.nv_driver.proofs.Words.{Geometry, ap, arith, pair_of}
use Rattle.nv_driver.proofs.RegisterLaws.{queues_written}
use Rattle.nv_driver.proofs.BringingUpLaws.{sets_queues}
use Rattle.nv_driver.proofs.enabling.set_queues.Goals as goal

pub returns-clause-banks : goal.returns-clause-banks
returns-clause-banks g c lawful =
    let depth = ap (λ (q : Geometry). q.depth) c.geometry.view_is in
    queues_written _ _ _ _ _ _ (pair_of c.args.geometry c.args.ctrl) (c.requires.ctrl lawful) (c.requires.off lawful)
    (omega arith) (omega arith) (omega arith) (omega arith) (omega arith) (omega arith)
    (c.write.ensures.banks lawful) (c.write-2.ensures.banks lawful) (c.write-3.ensures.banks lawful)
    (c.write-4.ensures.banks lawful) (c.write-5.ensures.banks lawful)

pub returns-clause-steps : goal.returns-clause-steps
returns-clause-steps g c =
    let depth = ap (λ (q : Geometry). q.depth) c.geometry.view_is in
    sets_queues g.B.AnyBus.was_written c.args.ctrl (pair_of c.args.geometry c.args.ctrl) _ _ _ _ _
    (omega arith) (omega arith) (omega arith) (omega arith) (omega arith)
    c.write.ensures.written c.write-2.ensures.written c.write-3.ensures.written
    c.write-4.ensures.written c.write-5.ensures.written
