-- Namespace Management and Namespace Attachment are read back from their entries and data.
use Rattle.std.proofs.Common.{rules, ◌≡◌, ℕ, ◌<◌, ◌^◌, Bool, List, Ok}
use Rattle.std.proofs.Common.{arith}
use Rattle.nv_layout.specs.CtrlList.{bytes_of_ctrl_list}
use Rattle.nv_layout.specs.NewNamespace.{NewNamespaceFits, bytes_of_new_namespace}
use Rattle.nv_layout.specs.declared.new_namespace.NewNamespace.{NewNamespace}
use Rattle.nv_layout.proofs.IdentifyLaws.{length-bytes_of_new_namespace, new_namespace_back}
use Rattle.nv_layout.proofs.RecordLaws.{ctrl_list_back, length-bytes_of_ctrl_list}
use Rattle.nv_command.proofs.EntryLaws.{FieldsFit}
use Rattle.nv_command.specs.Management.{AttachmentFits, attachment_in, create_in}
use Rattle.nv_command.specs.Form.{attachment_fields, management_fields}
use Rattle.nv_command.specs.declared.command.Command.TheVariants.{Create, Attachment}

-- the fields of the entry of a Namespace Management with a select of four bits fit their bits
pub management_fits : (select : ℕ) → select < 2 ^ 4 → FieldsFit (management_fields select)
management_fits select h = search (rules, arith)

-- the fields of the entry of a Namespace Attachment fit their bits
pub attachment_fits : (detach : Bool) → FieldsFit (attachment_fields detach)
attachment_fits detach = search (rules, arith)

-- a page from the host

-- the creation of a namespace whose parameters fit is read back from its page
pub create_back : (w : NewNamespace) → NewNamespaceFits w
    → create_in (bytes_of_new_namespace w) ≡ Ok (Create w)
create_back w fits = simp (length-bytes_of_new_namespace, new_namespace_back)

-- an attachment or a detachment that fits is read back from its page
pub attachment_back : (detach : Bool) (n : ℕ) (ids : List ℕ) → AttachmentFits n ids
    → attachment_in detach n (bytes_of_ctrl_list ids) ≡ Ok (Attachment n detach ids)
attachment_back detach n ids fits = search (rules, length-bytes_of_ctrl_list, ctrl_list_back)
