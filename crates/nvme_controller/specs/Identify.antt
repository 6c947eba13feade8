-- What Identify would return, for a program in C that asks without a command.
use Rattle.std.specs.Prelude.{ℕ, ℤ, pos, List, Option, None, Some, Result, Ok, Err, if◌then◌else◌}
use Rattle.nv_layout.specs.IdCtrl.{bytes_of_id_ctrl}
use Rattle.nv_layout.specs.IdNs.{bytes_of_id_ns}
use Rattle.nv_command.specs.declared.command.Command.{Command}
use Rattle.nv_command.specs.declared.refusal.Refusal.{Refusal}
use Rattle.nv_command.specs.declared.reply.Reply.{Reply}
use Rattle.nv_command.specs.declared.reply.Reply.TheVariants as reply
use Rattle.nv_model.specs.Answer.{answer_to}
use Rattle.nv_controller.specs.Machine.{MachineValue}
use Rattle.nvme_controller.specs.Calls.{has}

-- the data of a controller or of a namespace in a reply
abbrev pub record_in : Result Reply Refusal → Option (List ℕ)
record_in (Ok (reply.Controller r)) = Some (bytes_of_id_ctrl r)
record_in (Ok (reply.Namespace r)) = Some (bytes_of_id_ns r)
record_in answer = None

-- what controller c would return for a command, if there is such a controller
abbrev pub record_asked : MachineValue → ℕ → Command → Option (List ℕ)
record_asked m c k = if has m c then record_in (answer_to m.state c k) else None

-- 1 if there is a record, or 0
abbrev pub record_number : Option (List ℕ) → ℤ
record_number None = pos 0
record_number (Some r) = pos 1

-- its bytes, or the bytes as they were if there is none
abbrev pub record_bytes : Option (List ℕ) → List ℕ → List ℕ
record_bytes None old = old
record_bytes (Some r) old = r
