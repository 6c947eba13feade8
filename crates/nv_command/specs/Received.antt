-- What a host receives as the answer to a command.
use Rattle.std.specs.Prelude.{ℕ, ◌/◌, List, ◌++◌, Result, Ok, Err, replicate, take}
use Rattle.nv_layout.specs.ErrorEntry.{no_entry}
use Rattle.nv_layout.specs.declared.error_entry.ErrorEntry.{ErrorEntry}
use Rattle.nv_layout.specs.declared.cqe.Status.{Status}
use Rattle.nv_command.specs.declared.command.Command.{Command}
use Rattle.nv_command.specs.declared.command.Command.TheVariants.{GetLog}
use Rattle.nv_command.specs.declared.reply.Reply.{Reply}
use Rattle.nv_command.specs.declared.reply.Reply.TheVariants as reply

-- the first `count` entries, followed by entries without an error if there are fewer
abbrev pub first_entries : ℕ → List ErrorEntry → List ErrorEntry
first_entries count es = take count (es ++ replicate count no_entry)

-- the first `count` entries of an error log; any other reply is unchanged
abbrev pub first_of_log : ℕ → Reply → Reply
first_of_log count (reply.Errors es) = reply.Errors (first_entries count es)
first_of_log count r = r

-- the reply as the host receives it: of the error log it has as many entries as were requested
abbrev pub received : Command → Reply → Reply
received (GetLog q) r = first_of_log (q.dwords / 16) r
received k r = r

-- the answer as the host receives it; a status is unchanged
abbrev pub answer_received : Command → Result Reply Status → Result Reply Status
answer_received k (Ok r) = Ok (received k r)
answer_received k (Err status) = Err status
