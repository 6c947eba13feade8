use Rattle.nv_script.proofs.Words.{ℕ, ◌++◌, ◌+◌, ◌≡◌, ◌≤◌, DriverValue, Goes, GoesAll, IsLinked, List, Option, State}
use Rattle.nv_script.proofs.Words.{Still, false, left_at, length}
use Rattle.nv_script.proofs.FeedLaws.{Fed}
use Rattle.nv_script.proofs.running.feed.Given as goal

abbrev pub invariant-loop-end : goal.invariant-loop-end
invariant-loop-end g l = record {
  numbered : l.session.number + length l.rest ≤ l.initial.session.number + length l.piece;
  out_ready : (g.O.Sink.state l.out).has_failed ≡ false;
  messages_ready : (g.M.Sink.state l.messages).has_failed ≡ false;
  linked : IsLinked (g.B.Bus.meaning l.bus) l.session.driver;
  fed : (done : List ℕ) × (l.piece ≡ done ++ l.rest)
      × ((s : State) (bytes : List ℕ) (o m : Option (List ℕ)) (d : DriverValue) (up : _)
      → let goes = Goes g.B.Bus.meaning g.B.Bus.was_written (Still g.B.Bus.was_read) g.B.Zeroing.was_zeroed
      g.B.Ringing.was_rung g.B.Bus.was_turned in
      Fed s bytes l.initial.line
      (left_at o (g.O.Sink.state l.initial.out).taken m (g.M.Sink.state l.initial.messages).taken
      (g.B.Bus.meaning l.initial.bus).state (GoesAll goes d up l.initial.session.driver l.initial.bus))
      l.initial.session
      → Fed s (bytes ++ done) l.line
      (left_at o (g.O.Sink.state l.out).taken m (g.M.Sink.state l.messages).taken (g.B.Bus.meaning l.bus).state
      (GoesAll goes d up l.session.driver l.bus)) l.session);
}

abbrev pub decreases-loop-end : goal.decreases-loop-end
decreases-loop-end g l = length l.rest
