use Rattle.nv_driver.proofs.Words.{AreReceived, IsToldInTime, IsUnderWay, left_of, length}
use Rattle.nv_driver.proofs.batch.exchange_all.Given as goal

abbrev pub ghost-send : goal.ghost-send
ghost-send g a = g.begun

abbrev pub ghost-turn : goal.ghost-turn
ghost-turn g a = g.begun

abbrev pub invariant-loop-batch : goal.invariant-loop-batch
invariant-loop-batch g l = record {
  under_way : IsUnderWay g.B.Bus.was_written g.B.Ringing.was_rung g.B.Bus.was_turned g.begun.start g.begun.run
      l.batch.sent l.batch.collected l.batch (g.B.Bus.meaning l.bus) l.bus l.pair
      (g.M.PagedMemory.page_len l.host.mem) (g.M.PagedMemory.bytes l.host.mem) l.host.taken;
  received : AreReceived l.requests g.begun.run l.batch.collected l.answers l.host.taken
      (g.M.PagedMemory.bytes l.host.mem) l.host.last;
  near : IsToldInTime g.begun.run l.batch;
}

abbrev pub decreases-loop-batch : goal.decreases-loop-batch
decreases-loop-batch g l = left_of (length g.begun.run.requests) l.batch
