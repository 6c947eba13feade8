use Rattle.nv_script.proofs.Words.{ℕ, ◌*◌, ◌≡◌, ◌≤◌, Goes, GoesAll, IsLinked, List, Stands, Still, WasRead, buffer_of}
use Rattle.nv_script.proofs.Words.{false, left_at, length, pieces, read_size, whole}
use Rattle.nv_script.proofs.running.run_session.Given as goal

abbrev pub invariant-loop-call : goal.invariant-loop-call
invariant-loop-call g l = record {
  not_failed : (g.R.Source.state l.script).has_failed ≡ false;
  not_ended : (g.R.Source.state l.script).has_ended ≡ false;
  calls : (g.R.Source.state l.script).calls ≡ l.call;
  few : (g.R.Source.state l.script).given ≤ read_size * l.call;
  room : length l.piece ≡ read_size;
  numbered : l.session.number ≤ (g.R.Source.state l.script).given;
  out_ready : (g.O.Sink.state l.out).has_failed ≡ false;
  messages_ready : (g.M.Sink.state l.messages).has_failed ≡ false;
  linked : IsLinked (g.B.Bus.meaning l.bus) l.session.driver;
  run : (bytes : List ℕ)
      × WasRead (g.R.Source.state l.initial.script) (g.R.Source.state l.script) bytes
      × (l.line ≡ buffer_of (pieces bytes).last)
      × Stands (whole (g.B.Bus.meaning l.initial.bus).state (pieces bytes).ended)
      (left_at (g.O.Sink.state l.initial.out).taken (g.O.Sink.state l.out).taken
      (g.M.Sink.state l.initial.messages).taken (g.M.Sink.state l.messages).taken
      (g.B.Bus.meaning l.bus).state
      (GoesAll (Goes g.B.Bus.meaning g.B.Bus.was_written (Still g.B.Bus.was_read) g.B.Zeroing.was_zeroed
      g.B.Ringing.was_rung g.B.Bus.was_turned) l.initial.session.driver l.initial.bus l.session.driver l.bus))
      l.session;
}
