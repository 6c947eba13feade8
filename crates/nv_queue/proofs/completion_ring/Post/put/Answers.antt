use Rattle.std.proofs.Common.{arith}
use Rattle.nv_queue.proofs.PlaceLaws.{places}
use Rattle.nv_queue.proofs.TagLaws.{keeps_tags}
use Rattle.nv_queue.proofs.completion_ring.Post.put.Goals as goal

pub returns-clause-tags : goal.returns-clause-tags
returns-clause-tags g c =
    keeps_tags _ _ c.args.self.now c.args.completion (grind (arith, places)) (grind (arith, places))
    (grind (arith, places))
