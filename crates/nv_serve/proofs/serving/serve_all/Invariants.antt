use Rattle.std.proofs.Common.{◌≡◌, ◌≤◌, ◌*◌, ◌+◌, false, length, List}
use Rattle.nv_driver.specs.BringingUp.{Still}
use Rattle.nv_driver.specs.Driver.{HasEntryPages}
use Rattle.nv_driver.specs.Linked.{IsLinked}
use Rattle.nv_serve.specs.Answer.{Answer}
use Rattle.nv_serve.specs.Handling.{calls}
use Rattle.nv_serve.specs.Header.{Request, most_data}
use Rattle.nv_serve.specs.inner.Reading.{IsReady}
use Rattle.nv_serve.specs.Served.{HasTaken}
use Rattle.nv_serve.proofs.ServedLaws.{Stands}
use Rattle.nv_serve.proofs.serving.serve_all.Given as goal

abbrev pub invariant-loop : goal.invariant-loop
invariant-loop g l = record {
  ready : IsReady (g.R.Source.state l.source);
  out_ready : (g.O.Sink.state l.out).has_failed ≡ false;
  few : (g.R.Source.state l.source).given ≤ l.counter * (72 + most_data);
  sent_long : length l.sent ≡ most_data;
  received_long : length l.received ≡ most_data;
  linked : IsLinked (g.B.Bus.meaning l.bus) l.driver;
  room : HasEntryPages l.driver;
  stands : (requests : List Request) × (answers : List Answer)
      × Stands (calls g.B.Bus.meaning g.B.Bus.was_written (Still g.B.Bus.was_read) g.B.Zeroing.was_zeroed
      g.B.Ringing.was_rung g.B.Bus.was_turned) l.initial.driver l.driver l.initial.bus l.bus
      (g.R.Source.state l.initial.source) (g.R.Source.state l.source) requests answers
      × HasTaken (g.O.Sink.state l.initial.out) (g.O.Sink.state l.out) answers
      × (length requests ≡ l.counter);
}
