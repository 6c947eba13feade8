-- Pages of replies, by their kinds.
use Rattle.std.proofs.Common.{◌≡◌, length, rules}
use Rattle.nv_layout.proofs.IdentifyLaws.{id_ctrl_back, id_ns_back, length-bytes_of_id_ctrl}
use Rattle.nv_layout.proofs.IdentifyLaws.{length-bytes_of_id_ns}
use Rattle.nv_layout.proofs.RecordLaws.{length-bytes_of_ns_list, ns_list_back}
use Rattle.nv_command.specs.Logs.{without_phases}
use Rattle.nv_command.specs.Reply.{FitsRecord, dword0_of, kind_of, page_of, reply_by}
use Rattle.nv_command.proofs.ReplySizes.{page_bytes}
use Rattle.nv_command.specs.declared.transfer.ReplyKind.{ReplyKind}
use Rattle.nv_command.specs.declared.transfer.ReplyKind.TheVariants as kind
use Rattle.nv_command.specs.declared.reply.Reply.{Reply}

-- the page of a reply that fits its record is as long as the page of its kind
pub length_of_page : (r : Reply) → FitsRecord r → length (page_of r) ≡ page_bytes (kind_of r)
length_of_page r h = search (rules, length-bytes_of_id_ctrl, length-bytes_of_id_ns, length-bytes_of_ns_list)

-- a reply of this kind is completely in dword 0 and a page
abbrev pub IsNoLog : ReplyKind → Type 0
IsNoLog kind.Errors = ⊥
IsNoLog kind.Smart = ⊥
IsNoLog k = Unit {0}

-- a reply that isn't a log is read back from dword 0 and its page
page_back : (r : Reply) → IsNoLog (kind_of r) → FitsRecord r
    → reply_by (kind_of r) (dword0_of r) (page_of r) ≡ without_phases r
page_back r h e = search (rules, id_ctrl_back, id_ns_back, ns_list_back)

-- a reply of a kind that isn't a log is read back by that kind
pub page_arrives : (k : ReplyKind) (r : Reply) → kind_of r ≡ k → IsNoLog k → FitsRecord r
    → reply_by k (dword0_of r) (page_of r) ≡ without_phases r
page_arrives k r is no_log fits = search (rules, page_back)
