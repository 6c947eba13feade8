-- Replies as dword 0 of a completion and data to the host.
use Rattle.std.specs.Prelude.{◌≡◌, ◌≢◌, ℕ, ◌*◌, ◌^◌, ◌<◌, ◌≤◌, List, [], ◌++◌, drop}
use Rattle.std.specs.Prelude.{length}
use Rattle.std.specs.List.{AllByRecursion}
use Rattle.nv_layout.specs.ErrorEntry.{ErrorEntryFits}
use Rattle.nv_layout.specs.ErrorEntryBytes.{bytes_of_entries}
use Rattle.nv_layout.specs.IdCtrl.{IdCtrlFits, bytes_of_id_ctrl}
use Rattle.nv_layout.specs.IdNs.{IdNsFits, bytes_of_id_ns}
use Rattle.nv_layout.specs.NsList.{bytes_of_ns_list}
use Rattle.nv_layout.specs.Limits.{most_nsids}
use Rattle.nv_layout.specs.Parts.{part}
use Rattle.nv_layout.specs.Smart.{SmartFits, bytes_of_smart}
use Rattle.nv_layout.specs.declared.error_entry.ErrorEntry.{ErrorEntry}
use Rattle.nv_command.specs.Form.{form_of}
use Rattle.nv_command.specs.Identify.{controller_in, list_in, namespace_in}
use Rattle.nv_command.specs.Logs.{errors_in, smart_in}
use Rattle.nv_command.specs.declared.command.Command.{Command}
use Rattle.nv_command.specs.declared.command.Command.TheVariants.{GetLog}
use Rattle.nv_command.specs.declared.transfer.ReplyKind.{ReplyKind}
use Rattle.nv_command.specs.declared.transfer.ReplyKind.TheVariants as kind
use Rattle.nv_command.specs.declared.reply.Reply.{Reply}
use Rattle.nv_command.specs.declared.reply.Reply.TheVariants as reply

-- dword 0 of the completion with a reply; it is 0 unless the reply is a number
abbrev pub dword0_of : Reply → ℕ
dword0_of (reply.Number n) = n
dword0_of r = 0

-- the page of a reply that isn't a log
abbrev pub page_of : Reply → List ℕ
page_of (reply.Controller r) = bytes_of_id_ctrl r
page_of (reply.Namespace r) = bytes_of_id_ns r
page_of (reply.List ids) = bytes_of_ns_list ids
page_of r = []

-- the bytes of a whole log
abbrev pub log_of : Reply → List ℕ
log_of (reply.Errors es) = bytes_of_entries es
log_of (reply.Smart r) = bytes_of_smart r
log_of r = []

-- the data to the host; for a log it is the requested part, with zeros past the log's end
abbrev pub data_of : Command → Reply → List ℕ
data_of (GetLog q) r = part (log_of r) q.offset (4 * q.dwords)
data_of k r = page_of r

-- a page that begins with this data
abbrev pub with_data : List ℕ → List ℕ → List ℕ
with_data bytes page = bytes ++ drop (length bytes) page

-- the reply of a kind, read from dword 0 and data
abbrev pub reply_by : ReplyKind → ℕ → List ℕ → Reply
reply_by kind.Controller dword0 bytes = controller_in bytes
reply_by kind.Namespace dword0 bytes = namespace_in bytes
reply_by kind.List dword0 bytes = list_in bytes
reply_by kind.Number dword0 bytes = reply.Number dword0
reply_by kind.Done dword0 bytes = reply.Done
reply_by kind.Errors dword0 bytes = errors_in bytes
reply_by kind.Smart dword0 bytes = smart_in bytes

-- the reply to a command, read from dword 0 and data
abbrev pub reply_in : Command → ℕ → List ℕ → Reply
reply_in k dword0 bytes = reply_by (form_of k).reply dword0 bytes

-- the kind of a reply
abbrev pub kind_of : Reply → ReplyKind
kind_of (reply.Controller r) = kind.Controller
kind_of (reply.Namespace r) = kind.Namespace
kind_of (reply.List ids) = kind.List
kind_of (reply.Number n) = kind.Number
kind_of reply.Done = kind.Done
kind_of (reply.Errors es) = kind.Errors
kind_of (reply.Smart r) = kind.Smart

-- a reply that the command can have
abbrev pub IsReplyTo : Command → Reply → Type 0
IsReplyTo k r = kind_of r ≡ (form_of k).reply

-- NSIDs that fit a list, none of them 0
pub record IsNsidList (ids : List ℕ) : Type 0 where
  pub count : length ids ≤ most_nsids
  pub numbers : AllByRecursion (λ n. (n ≢ 0) × (n < 2 ^ 32)) ids

-- from 1 to 256 entries, each of which fits its bits
pub record IsEntryList (es : List ErrorEntry) : Type 0 where
  pub some : 0 < length es
  pub count : length es ≤ 256
  pub entries : AllByRecursion ErrorEntryFits es

-- the condition under which a reply is read back from its record
abbrev pub FitsRecord : Reply → Type 0
FitsRecord (reply.Controller r) = IdCtrlFits r
FitsRecord (reply.Namespace r) = IdNsFits r
FitsRecord (reply.List ids) = IsNsidList ids
FitsRecord (reply.Number n) = n < 2 ^ 32
FitsRecord reply.Done = Unit {0}
FitsRecord (reply.Errors es) = IsEntryList es
FitsRecord (reply.Smart r) = SmartFits r
