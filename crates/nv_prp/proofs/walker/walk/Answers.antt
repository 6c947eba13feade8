use Rattle.std.proofs.Common.{arith, refl}
use Rattle.nv_prp.proofs.Words.{page_size_bounds}
use Rattle.nv_prp.proofs.FaultLaws.{legal_from_none}
use Rattle.nv_prp.proofs.SpanLaws.{spans_lie_in}
use Rattle.nv_prp.proofs.walker.walk.Goals as goal

pub returns-in-Ok-clause-legal : goal.returns-in-Ok-clause-legal
returns-in-Ok-clause-legal g c = (λ _. legal_from_none _ c.in-Ok.ensures.walked.0, λ _. refl)

pub returns-in-Ok-clause-inside : goal.returns-in-Ok-clause-inside
returns-in-Ok-clause-inside g c =
    let size = page_size_bounds _ c.in-Ok.ensures.size in
    rw c.in-Ok.ensures.walked.1
    (spans_lie_in _ (legal_from_none _ c.in-Ok.ensures.walked.0) (omega (arith, size)) c.requires.some)
