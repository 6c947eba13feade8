-- The answer to a command, and how it is stored in a slot.
use Rattle.std.specs.Prelude.{Option, None, Some, Result, Ok, Err}
use Rattle.nv_layout.specs.declared.cqe.Status.{Status}
use Rattle.nv_command.specs.declared.reply.Reply.{Reply}

-- the reply, or the status of the refusal
abbrev pub Answer : Type 0
Answer = Result Reply Status

-- a refusal, or else the reply that is stored separately
abbrev pub answer_kept : Reply → Option Status → Answer
answer_kept reply None = Ok reply
answer_kept reply (Some status) = Err status
