use Rattle.nv_blocks.proofs.ZeroingLaws.{every_zeroing}
use Rattle.nv_blocks.proofs.zeroing.zeroing_is_execution.Goals as goal

pub returns : goal.returns
returns c = every_zeroing
