use Rattle.nv_model.proofs.ReplyLaws.{reply_fits}
use Rattle.nv_subsystem.proofs.subsystem.replies_fit.Goals as goal

pub returns : goal.returns
returns c = reply_fits
