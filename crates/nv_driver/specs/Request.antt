-- What is sent to a controller: an entry, and the data that belongs to it.
use Rattle.std.specs.Prelude.{◌≡◌, ℕ, ◌<◌, ◌≤◌, ◌^◌, ◌++◌, List, Result, Ok, Err, length, replicate}
use Rattle.std.specs.Prelude.{take}
use Rattle.nv_layout.specs.Sqe.{SqeFits}
use Rattle.nv_layout.specs.declared.sqe.Sqe.{Sqe}
use Rattle.nv_command.specs.Command.{CommandFits, bytes_from_host, host_data_of, transfer_by}
use Rattle.nv_command.specs.Form.{namespace_of}
use Rattle.nv_command.specs.Entry.{entry_of}
use Rattle.nv_command.specs.Logs.{IsSendable}
use Rattle.nv_command.specs.Received.{answer_received}
use Rattle.nv_command.specs.declared.command.Command.{Command}
use Rattle.nv_command.specs.declared.status_code.StatusCode.{StatusCode}
use Rattle.nv_command.specs.declared.transfer.Transfer.{Transfer}
use Rattle.nv_command.specs.declared.transfer.Transfer.TheVariants.{NoData}
use Rattle.nv_model.specs.Conditions.{greatest_limit, limit_of}
use Rattle.nv_model.specs.State.{State}
use Rattle.nv_model.specs.WellFormed.{IsWellFormed}
use Rattle.nv_bus.specs.Call.{HasRoom, asked_by, moves_of}
use Rattle.nv_driver.specs.Answer.{Answer}

-- what an entry asks for: a command, or else the status with which it is refused
abbrev pub Asked : Type 0
Asked = Result Command StatusCode

-- the entry, the direction and the length of its data, what the host sends, and what it asks for
pub record Request : Type 0 where
  pub entry : Sqe
  pub transfer : Transfer
  pub sends : List ℕ
  pub asked : Asked

-- its entry under a command identifier, with a data pointer
abbrev pub entry_as : Request → (cid prp1 prp2 : ℕ) → Sqe
entry_as q cid prp1 prp2 = record q.entry { cid = cid; prp1 = prp1; prp2 = prp2 }

-- a command's data is transferred as the entry's, and its NSID fits
abbrev pub GoesBy : Asked → Transfer → Type 0
GoesBy (Ok k) moves = (transfer_by k ≡ moves) × (namespace_of k < 2 ^ 32)
GoesBy (Err code) moves = Unit {0}

-- For a controller with this limit, the entry asks for what the request says, and its data is transferred as
-- the request says if its data pointer is read, whatever its command identifier and its data pointer are.
pub record IsRequest (limit : ℕ) (q : Request) : Type 0 where
  pub fits : SqeFits q.entry
  pub room : HasRoom q.transfer
  pub transfer : (cid prp1 prp2 : ℕ) (moves : Transfer) → cid < 2 ^ 16
      → moves_of limit (entry_as q cid prp1 prp2) ≡ Ok moves → q.transfer ≡ moves
  pub asked : (cid prp1 prp2 : ℕ) → cid < 2 ^ 16
      → asked_by limit (entry_as q cid prp1 prp2) q.sends ≡ q.asked
  pub sends : length q.sends ≡ bytes_from_host q.transfer
  pub command : GoesBy q.asked q.transfer

-- the reply to a command can be read from its data
abbrev pub IsReadable : Asked → Type 0
IsReadable (Ok k) = IsSendable k
IsReadable (Err code) = Unit {0}

-- the answer as the host reads it
abbrev pub received_as : Asked → Answer → Answer
received_as (Ok k) answer = answer_received k answer
received_as (Err code) answer = answer

-- ---- commands

-- the request of a command: its entry, its transfer, and its data from the host
abbrev pub request_of : Command → Request
request_of k = record {
  entry = entry_of k 0;
  transfer = transfer_by k;
  sends = host_data_of k;
  asked = Ok k;
}

-- the law: for each controller of a well-formed subsystem, each command that `admin` takes is a request
abbrev pub EveryCommandIsRequest : Type 0
EveryCommandIsRequest = (s : State) (c : ℕ) (k : Command) → IsWellFormed s
    → c < length s.controllers → CommandFits k → IsSendable k
    → IsRequest (limit_of s c) (request_of k)

-- ---- any entry

-- the data transfer of an entry: none if a rule refuses it before its data pointer is read, which
-- each controller does with a length that is greater than any limit
abbrev pub moved_by : Result Transfer StatusCode → Transfer
moved_by (Ok moves) = moves
moved_by (Err code) = NoData

-- the data transfer of an entry, or none if it is refused before its data pointer is read
abbrev pub transfer_for : Sqe → Transfer
transfer_for e = moved_by (moves_of greatest_limit e)

-- n bytes: the first of the given ones, and zeros after the last one
abbrev pub padded : ℕ → List ℕ → List ℕ
padded n bytes = take n (bytes ++ replicate n 0)

-- the bytes that the host sends with an entry: as many of its bytes as the entry's data has
abbrev pub sent_for : Transfer → List ℕ → List ℕ
sent_for moves bytes = padded (bytes_from_host moves) bytes

-- the request of an entry and the host's bytes to a controller with this limit
abbrev pub request_for : ℕ → Sqe → List ℕ → Request
request_for limit e bytes =
    let sends = sent_for (transfer_for e) bytes in
    record {
      entry = e;
      transfer = transfer_for e;
      sends = sends;
      asked = asked_by limit e sends;
    }

-- the law: any entry with any bytes of the host is a request
abbrev pub EveryEntryIsRequest : Type 0
EveryEntryIsRequest = (limit : ℕ) (e : Sqe) (bytes : List ℕ) → limit ≤ greatest_limit → SqeFits e
    → IsRequest limit (request_for limit e bytes)
