use Rattle.std.proofs.Common.{◌≡◌, ◌+◌, take, sum_by}
use Rattle.nv_file.proofs.file.fits.Given as goal

abbrev pub invariant-loop-entry : goal.invariant-loop-entry
invariant-loop-entry l = l.left + sum_by (λ n. n.namespace.capacity) (take l.entry-index l.namespaces) ≡ l.tnvmcap
