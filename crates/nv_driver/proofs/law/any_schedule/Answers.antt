use Rattle.nv_driver.proofs.ScheduleLaws.{every_schedule}
use Rattle.nv_driver.proofs.law.any_schedule.Goals as goal

pub returns : goal.returns
returns c = every_schedule
