use Rattle.std.proofs.Common.{◌≡◌, ◌-◌, ◌≤◌, length}
use Rattle.nv_serve.specs.inner.Reading.{Fills, IsReady}
use Rattle.nv_serve.proofs.reading.fill.Given as goal

abbrev pub invariant-loop-filled : goal.invariant-loop-filled
invariant-loop-filled g l = record {
  few : l.filled ≤ length l.buf;
  len : length l.buf ≡ length l.initial.buf;
  fills : Fills l.filled (g.R.Source.state l.initial.source) (g.R.Source.state l.source) l.buf;
  ready : IsReady (g.R.Source.state l.source);
}

abbrev pub decreases-loop-filled : goal.decreases-loop-filled
decreases-loop-filled g l = length l.initial.buf - l.filled
