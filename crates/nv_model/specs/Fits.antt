-- Replies that can be transferred.
use Rattle.std.specs.Prelude.{ℕ}
use Rattle.nv_command.specs.Reply.{FitsRecord, IsReplyTo}
use Rattle.nv_command.specs.declared.command.Command.{Command}
use Rattle.nv_model.specs.Meaning.{reply_of}
use Rattle.nv_model.specs.State.{State}
use Rattle.nv_model.specs.WellFormed.{IsWellFormed}

-- the reply of a well-formed subsystem to a command belongs to that command, and fits its record
pub record ReplyFits (s : State) (c : ℕ) (k : Command) : Type 0 where
  pub is_reply : IsReplyTo k (reply_of s c k)
  pub fits : FitsRecord (reply_of s c k)

-- each reply of a well-formed subsystem fits its record
abbrev pub RepliesFit : Type 0
RepliesFit = (s : State) (c : ℕ) (k : Command) → IsWellFormed s → ReplyFits s c k
