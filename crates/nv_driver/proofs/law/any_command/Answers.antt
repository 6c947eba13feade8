use Rattle.nv_driver.proofs.RequestLaws.{every_command}
use Rattle.nv_driver.proofs.law.any_command.Goals as goal

pub returns : goal.returns
returns c = every_command
