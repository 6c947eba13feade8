use Rattle.std.proofs.Common.{◌≡◌, ◌++◌, false, length, List, ℕ}
use Rattle.std.specs.Io.KnownBytes.{Appends}
use Rattle.nv_stream.proofs.writing.write_all.Given as goal

abbrev pub invariant-loop-rest : goal.invariant-loop-rest
invariant-loop-rest g l = record {
  failed : (g.S.Sink.state l.sink).has_failed ≡ false;
  written : (done : List ℕ) × (l.text ≡ done ++ l.rest)
      × Appends (g.S.Sink.state l.initial.sink).taken (g.S.Sink.state l.sink).taken done;
}

abbrev pub decreases-loop-rest : goal.decreases-loop-rest
decreases-loop-rest g l = length l.rest
