use Rattle.std.proofs.Common.{ap, arith, drop, take}
use Rattle.nv_host.specs.Bytes.{bytes_at}
use Rattle.nv_blocks.proofs.CompareLaws.{compared}
use Rattle.nv_blocks.proofs.execute.act.Goals as goal

pub returns-else-not-are_held-clause-acted : goal.returns-else-not-are_held-clause-acted
unfolding bytes_at
returns-else-not-are_held-clause-acted g c =
    compared _ _ _ c.args.extent _ c.args.stored.now _ _ c.in-Compare.is
    (ap (λ n. take n (drop c.args.extent.start c.args.stored.now)) (omega arith))
    c.are_held.ensures c.if-not-are_held.false
