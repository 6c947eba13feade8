use Rattle.nv_command.proofs.TravelLaws.{commands_travel}
use Rattle.nv_command.proofs.command.Command.entry.Goals as goal

pub returns-clause-arrives : goal.returns-clause-arrives
returns-clause-arrives c =
    commands_travel c.args.self.now c.args.cid c.fits.ensures c.ranges.cid.fits
