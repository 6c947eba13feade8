use Rattle.std.proofs.Common.{rules}
use Rattle.nv_subsystem.proofs.subsystem.Subsystem.answer.Goals as goal

pub returns-in_err-check_attachment-in-Attachment : goal.returns-in_err-check_attachment-in-Attachment
returns-in_err-check_attachment-in-Attachment c = rw (c.in-Attachment.is, ← c.as_slice.ensures.items) (search rules)

pub returns-in_ok-check_attachment-in-Attachment : goal.returns-in_ok-check_attachment-in-Attachment
returns-in_ok-check_attachment-in-Attachment c = rw (c.in-Attachment.is, ← c.as_slice.ensures.items) (search rules)
