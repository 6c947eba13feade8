use Rattle.nv_queue.proofs.RunLaws.{every_run}
use Rattle.nv_queue.proofs.any_run.Goals as goal

pub returns : goal.returns
returns c = every_run
