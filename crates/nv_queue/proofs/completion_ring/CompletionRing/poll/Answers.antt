use Rattle.std.proofs.Common.{arith}
use Rattle.nv_queue.proofs.PlaceLaws.{places}
use Rattle.nv_queue.proofs.SlotLaws.{collects_none, collects_one}
use Rattle.nv_queue.proofs.TagLaws.{finds_none, finds_one}
use Rattle.nv_queue.proofs.completion_ring.CompletionRing.poll.Goals as goal

pub returns-then-completion-due-clause-posted : goal.returns-then-completion-due-clause-posted
returns-then-completion-due-clause-posted g c =
    collects_none _ c.args.self.now (grind (arith, places)) (grind (arith, places))

pub returns-then-completion-due-clause-tags : goal.returns-then-completion-due-clause-tags
returns-then-completion-due-clause-tags g c =
    finds_none _ c.args.self.now (grind (arith, places)) (grind (arith, places))

pub returns-clause-posted : goal.returns-clause-posted
returns-clause-posted g c =
    collects_one _ c.args.self.now _ (grind (arith, places)) (grind (arith, places)) (grind (arith, places))

pub returns-clause-tags : goal.returns-clause-tags
returns-clause-tags g c =
    finds_one _ c.args.self.now c.get-completion.result (grind (arith, places)) (grind (arith, places))
