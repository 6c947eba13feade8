-- Namespace Management (opcode 0Dh) and Namespace Attachment (opcode 15h): CDW10 3:0 selects the
-- operation, and the host sends its parameters in a page.
use Rattle.std.specs.Prelude.{ℕ, ◌%◌, ◌^◌, ◌<◌, ◌==◌, Bool, true, false, List, Result, Ok, Err}
use Rattle.std.specs.Prelude.{if◌then◌else◌, length}
use Rattle.nv_layout.specs.CtrlList.{CtrlListFits, ctrl_list_of_bytes}
use Rattle.nv_layout.specs.NewNamespace.{new_namespace_of_bytes}
use Rattle.nv_layout.specs.declared.ctrl_list.LayoutError.{LayoutError}
use Rattle.nv_layout.specs.declared.sqe.Sqe.{Sqe}
use Rattle.nv_command.specs.StatusCode.{code_of_layout}
use Rattle.nv_layout.specs.Steps.{◌>>=◌}
use Rattle.nv_command.specs.declared.command.Command.{Command}
use Rattle.nv_command.specs.declared.command.Command.TheVariants.{Create, Delete, Attachment}
use Rattle.nv_command.specs.declared.decoded.Decoded.{Decoded}
use Rattle.nv_command.specs.declared.decoded.Decoded.TheVariants as decoded
use Rattle.nv_command.specs.declared.status_code.StatusCode.{StatusCode}
use Rattle.nv_command.specs.declared.status_code.StatusCode.TheVariants.{DataTransferError}
use Rattle.nv_command.specs.declared.status_code.StatusCode.TheVariants.{InvalidFieldInCommand}

-- the NSID fits its bits, and the controllers fit their list
pub record AttachmentFits (n : ℕ) (ids : List ℕ) : Type 0 where
  pub nsid : n < 2 ^ 32
  pub list : CtrlListFits ids

-- ---- reading

-- SEL of an entry
abbrev pub select_of : Sqe → ℕ
select_of e = e.cdw10 % 2 ^ 4

-- the data that the host sent, if it is a page
abbrev pub page_of : List ℕ → Result (List ℕ) StatusCode
page_of bytes = if length bytes == 4096 then Ok bytes else Err DataTransferError

-- the creation of a namespace
abbrev pub create_in : List ℕ → Result Command StatusCode
create_in «data» = do
  page ← page_of «data»
  Ok (Create (new_namespace_of_bytes page))

-- the controllers of a list, or the status of a list that isn't valid
abbrev pub listed : Result (List ℕ) LayoutError → Result (List ℕ) StatusCode
listed (Ok ids) = Ok ids
listed (Err error) = Err (code_of_layout error)

-- the controllers that the host lists
abbrev pub attachment_in : Bool → ℕ → List ℕ → Result Command StatusCode
attachment_in detach n «data» = do
  page ← page_of «data»
  ids ← listed (ctrl_list_of_bytes page)
  Ok (Attachment n detach ids)

-- for a creation, the entry's NSID is ignored
abbrev pub management_decoded : Sqe → Result Decoded StatusCode
management_decoded e =
    if select_of e == 0x0 then Ok decoded.Create
    else (if select_of e == 0x1 then Ok (decoded.Whole (Delete e.nsid))
    else Err InvalidFieldInCommand)

-- SEL 0h attaches, SEL 1h detaches, and any other is an invalid field
abbrev pub attachment_decoded : Sqe → Result Decoded StatusCode
attachment_decoded e =
    if select_of e == 0x0 then Ok (decoded.Attachment e.nsid false)
    else (if select_of e == 0x1 then Ok (decoded.Attachment e.nsid true)
    else Err InvalidFieldInCommand)
