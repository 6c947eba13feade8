-- Each reply of a well-formed subsystem fits its record.
use Rattle.nv_model.specs.Fits.{RepliesFit}
use Rattle.nv_model.proofs.MeaningLaws.{sound}

-- each reply of a well-formed subsystem fits its record
pub reply_fits : RepliesFit
reply_fits s c k w = record { is_reply = (sound k).is_reply s c; fits = (sound k).fits s c w }
