use Rattle.nv_subsystem.proofs.Words.{AreRestored}
use Rattle.nv_subsystem.proofs.feature_values.restore_recoveries.Given as goal

abbrev pub invariant-loop-k : goal.invariant-loop-k
invariant-loop-k l = AreRestored (λ _. l.default) l.k l.initial.table l.table
