use Rattle.nv_driver.proofs.Words.{◌≡◌, IsBus, ReadsOther, bank_at, state_written, with_register_at}
use Rattle.std.proofs.Common.{slice_set}
use Rattle.nv_driver.proofs.enabling.configure.Given as goal

-- CC was written, and CSTS was read with another RDY, which doesn't happen over a lawful bus
abbrev pub invariant-loop : goal.invariant-loop
invariant-loop g l = record {
  steps : (first : _) × g.B.AnyBus.was_written l.fn.bus l.ctrl 0x14 l.cc first
      × ReadsOther g.B.AnyBus.was_read l.ctrl l.ready l.counter first l.bus;
  none : g.B.AnyBus.is_lawful → l.counter ≡ 0;
  state : g.B.AnyBus.is_lawful → (g.B.AnyBus.meaning l.bus).state
      ≡ state_written (g.B.AnyBus.meaning l.fn.bus) l.ctrl 0x14 l.cc;
  banks : g.B.AnyBus.is_lawful → (g.B.AnyBus.meaning l.bus).banks
      ≡ slice_set (g.B.AnyBus.meaning l.fn.bus).banks l.ctrl
      (with_register_at (bank_at (g.B.AnyBus.meaning l.fn.bus).banks l.ctrl) 0x14 l.cc);
  bus : g.B.AnyBus.is_lawful → IsBus (g.B.AnyBus.meaning l.fn.bus)
      → IsBus (g.B.AnyBus.meaning l.bus);
}
