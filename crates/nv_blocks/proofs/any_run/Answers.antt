use Rattle.nv_blocks.proofs.OrderLaws.{every_queue}
use Rattle.nv_blocks.proofs.PostLaws.{every_completion}
use Rattle.nv_blocks.proofs.RunLaws.{every_read}
use Rattle.nv_blocks.proofs.any_run.Goals as goal

pub returns : goal.returns
returns c = record { reads = every_read; queues = every_queue; completions = every_completion }
