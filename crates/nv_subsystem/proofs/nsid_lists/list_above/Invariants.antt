use Rattle.nv_subsystem.proofs.NumbersAbove.{Lists}
use Rattle.nv_subsystem.proofs.nsid_lists.list_above.Given as goal

abbrev pub invariant-loop : goal.invariant-loop
invariant-loop g l = Lists (g.A.Ascending.listed l.numbers) l.after l.list l.last l.counter
