use Rattle.nv_driver.proofs.Words.{◌+◌, ◌≡◌, AreReceived, IsToldByPace, IsToldInTime, IsUnderWay}
use Rattle.nv_driver.specs.inner.Pace.{taken_by_turn}
use Rattle.nv_driver.proofs.batch.Batch.turn.Given as goal

abbrev pub invariant-loop : goal.invariant-loop
invariant-loop g l = record {
  under_way : IsUnderWay g.B.Bus.was_written g.B.Ringing.was_rung g.B.Bus.was_turned g.begun.start g.begun.run
      l.self.sent (l.fn.self.collected + l.posted) l.self (g.B.Bus.meaning l.bus) l.bus l.pair
      (g.M.PagedMemory.page_len l.host.mem) (g.M.PagedMemory.bytes l.host.mem) l.host.taken;
  received : AreReceived l.requests g.begun.run l.self.collected l.answers l.host.taken
      (g.M.PagedMemory.bytes l.host.mem) l.host.last;
  batch : l.self ≡ record l.fn.self { collected = l.self.collected; told = l.self.told };
  collected : l.self.collected ≡ l.fn.self.collected + l.counter;
  near : IsToldInTime g.begun.run l.self;
  paced : IsToldByPace g.begun.run.geometry.pace l.fn.self.told l.self.told;
  count : l.posted ≡ taken_by_turn g.begun.run l.fn.self;
}
