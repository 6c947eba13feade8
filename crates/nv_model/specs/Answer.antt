-- The answer of a step.
use Rattle.std.specs.Prelude.{ℕ, Option, Some, None, Result, Ok, Err}
use Rattle.nv_command.specs.Logs.{without_phases}
use Rattle.nv_command.specs.declared.command.Command.{Command}
use Rattle.nv_command.specs.declared.refusal.Refusal.{Refusal}
use Rattle.nv_command.specs.declared.reply.Reply.{Reply}
use Rattle.nv_model.specs.Meaning.{refusal_of, reply_of}
use Rattle.nv_model.specs.State.{State}

-- the answer, with the whole refusal
abbrev pub answer_by : Option Refusal → Reply → Result Reply Refusal
answer_by None reply = Ok reply
answer_by (Some r) reply = Err r

-- the answer without the phase tags of log entries
abbrev pub answer_without_phases : Result Reply Refusal → Result Reply Refusal
answer_without_phases (Ok reply) = Ok (without_phases reply)
answer_without_phases (Err r) = Err r

-- the answer to a command of controller c, with the whole refusal
abbrev pub answer_to : State → ℕ → Command → Result Reply Refusal
answer_to s c k = answer_by (refusal_of s c k) (reply_of s c k)
