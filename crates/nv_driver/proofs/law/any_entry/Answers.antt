use Rattle.nv_driver.proofs.RequestLaws.{every_entry}
use Rattle.nv_driver.proofs.law.any_entry.Goals as goal

pub returns : goal.returns
returns c = every_entry
