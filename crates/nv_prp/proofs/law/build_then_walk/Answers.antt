use Rattle.nv_prp.proofs.BufferLaws.{built_is_walked}
use Rattle.nv_prp.proofs.law.build_then_walk.Goals as goal

pub returns : goal.returns
returns c = built_is_walked
