use Rattle.nv_subsystem.proofs.Words.{AreRestored, first_value, key_at}
use Rattle.nv_subsystem.proofs.feature_values.restore_features.Given as goal

abbrev pub invariant-loop-place : goal.invariant-loop-place
invariant-loop-place l =
    AreRestored (λ place. (first_value l.rules.values (key_at place)).current) l.place l.initial.table l.table
