use Rattle.std.proofs.Common.{◌∷◌, take}
use Rattle.nv_subsystem.proofs.Words.{ErrorEntry, Log}
use Rattle.nv_subsystem.proofs.error_log.ErrorLog.book.Goals as goal

abbrev with_newest : ErrorEntry → Log → Log
with_newest e l = record l { entries = take l.most (e ∷ l.entries) }

pub returns : goal.returns
returns c =
    rw c.push_front.ensures.items
    (λ i. with_newest (c.log_entry.ensures i) (c.self.view_is i))
