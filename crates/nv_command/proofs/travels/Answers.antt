use Rattle.nv_command.proofs.TravelLaws.{commands_travel, replies_fit, replies_travel}
use Rattle.nv_command.proofs.travels.Goals as goal

pub returns : goal.returns
returns c = record { commands = commands_travel; sizes = replies_fit; replies = replies_travel }
