use Rattle.nv_driver.proofs.Words.{◌<◌, ◌≡◌, ◌≤◌, IsUnderWay, MatchOption, setting_of, slot}
use Rattle.nv_driver.proofs.batch.Batch.send.Given as goal

abbrev pub invariant-loop-number : goal.invariant-loop-number
invariant-loop-number g l = record {
  under_way : IsUnderWay g.B.Bus.was_written g.B.Ringing.was_rung g.B.Bus.was_turned g.begun.start g.begun.run
      l.fn.self.sent l.fn.self.collected l.self (g.B.Bus.meaning l.bus) l.bus l.pair
      (g.M.PagedMemory.page_len l.host.mem) (g.M.PagedMemory.bytes l.host.mem) l.host.taken;
  batch : l.self ≡ record l.fn.self { sent = l.number };
  from : l.fn.self.sent ≤ l.number;
  tail : MatchOption l.tail (l.number ≡ l.fn.self.sent)
      (λ tail. (tail ≡ slot (setting_of g.begun.run) l.number) × (l.fn.self.sent < l.number));
}
