-- What a completion tells of an answer.
use Rattle.std.specs.Prelude.{ℕ, Result, Ok, Err}
use Rattle.nv_command.specs.Reply.{dword0_of}
use Rattle.nv_command.specs.declared.refusal.Refusal.{Refusal}
use Rattle.nv_command.specs.declared.reply.Reply.{Reply}

-- dword 0 of the completion in place of the reply
abbrev pub dword0_in : Result Reply Refusal → Result ℕ Refusal
dword0_in (Ok reply) = Ok (dword0_of reply)
dword0_in (Err refusal) = Err refusal
