use Rattle.std.proofs.Common.{arith}
use Rattle.nv_subsystem.proofs.NumbersAbove.{all_left}
use Rattle.nv_subsystem.proofs.nsid_lists.list_above.Goals as goal

pub returns-after-loop : goal.returns-after-loop
returns-after-loop g c = all_left _ c.args.after c.loop.list c.loop.last
    c.loop.counter c.loop.invariant (omega arith)
