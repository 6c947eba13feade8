-- The Identify commands: opcode 06h, with the requested structure (CNS) in CDW10 7:0.
use Rattle.std.specs.Prelude.{ℕ, ◌%◌, ◌^◌, ◌<◌, ◌==◌, List, Result, Ok, Err, if◌then◌else◌}
use Rattle.nv_layout.specs.IdCtrl.{id_ctrl_of_bytes}
use Rattle.nv_layout.specs.IdNs.{id_ns_of_bytes}
use Rattle.nv_layout.specs.NsList.{ns_list_of_bytes}
use Rattle.nv_layout.specs.declared.sqe.Sqe.{Sqe}
use Rattle.nv_command.specs.declared.command.Command.{Command}
use Rattle.nv_command.specs.declared.command.Command.TheVariants.{IdentifyController, IdentifyNamespace}
use Rattle.nv_command.specs.declared.command.Command.TheVariants.{AllocatedNamespace, ActiveList}
use Rattle.nv_command.specs.declared.command.Command.TheVariants.{AllocatedList}
use Rattle.nv_command.specs.declared.reply.Reply.{Reply}
use Rattle.nv_command.specs.declared.reply.Reply.TheVariants as reply
use Rattle.nv_command.specs.declared.status_code.StatusCode.{StatusCode}
use Rattle.nv_command.specs.declared.status_code.StatusCode.TheVariants.{InvalidFieldInCommand}

-- an NSID fits its bits
abbrev pub IdentifyFits : ℕ → Type 0
IdentifyFits nsid = nsid < 2 ^ 32

-- the Identify command with a CNS and an NSID, or Invalid Field in Command for any other CNS
abbrev pub identify_by : ℕ → ℕ → Result Command StatusCode
identify_by cns n =
    if cns == 0x00 then Ok (IdentifyNamespace n)
    else (if cns == 0x01 then Ok IdentifyController
    else (if cns == 0x02 then Ok (ActiveList n)
    else (if cns == 0x10 then Ok (AllocatedList n)
    else (if cns == 0x11 then Ok (AllocatedNamespace n)
    else Err InvalidFieldInCommand))))

-- the Identify command of an entry
abbrev pub identify_command : Sqe → Result Command StatusCode
identify_command e = identify_by (e.cdw10 % 2 ^ 8) e.nsid

-- the controller's data in a page
abbrev pub controller_in : List ℕ → Reply
controller_in page = reply.Controller (id_ctrl_of_bytes page)

-- the namespace's data in a page
abbrev pub namespace_in : List ℕ → Reply
namespace_in page = reply.Namespace (id_ns_of_bytes page)

-- the NSIDs in a page
abbrev pub list_in : List ℕ → Reply
list_in page = reply.List (ns_list_of_bytes page)
