-- What a controller reads of an entry before it executes the command: the command and the places of
-- its data, or the status of the first rule that the entry breaks.
use Rattle.std.specs.Prelude.{ℕ, ◌<◌, ◌≤◌, List, [], nat_lt, if◌then◌else◌, Option, Some, None}
use Rattle.std.specs.Prelude.{Result, Ok, Err}
use Rattle.nv_layout.specs.declared.sqe.Sqe.{Sqe}
use Rattle.nv_prp.specs.Place.{read_at}
use Rattle.nv_prp.specs.Transfer as prp
use Rattle.nv_prp.specs.declared.error.PrpError.{PrpError}
use Rattle.nv_prp.specs.declared.error.PrpError.TheVariants.{Offset, Outside}
pub use Rattle.nv_command.specs.Command.{length_of}
use Rattle.nv_command.specs.Decoding.{command_of, transfer_of}
use Rattle.nv_layout.specs.Steps.{◌>>=◌}
use Rattle.nv_command.specs.declared.command.Command.{Command}
use Rattle.nv_command.specs.declared.status_code.StatusCode.{StatusCode}
use Rattle.nv_command.specs.declared.status_code.StatusCode.TheVariants.{DataTransferError}
use Rattle.nv_command.specs.declared.status_code.StatusCode.TheVariants.{InvalidFieldInCommand}
use Rattle.nv_command.specs.declared.status_code.StatusCode.TheVariants.{PrpOffsetInvalid}
use Rattle.nv_command.specs.declared.transfer.Transfer.{Transfer}
use Rattle.nv_command.specs.declared.transfer.Transfer.TheVariants.{NoData, ToHost, FromHost}

-- the status of a fault in a PRP
abbrev pub prp_status : PrpError → StatusCode
prp_status Offset = PrpOffsetInvalid
prp_status Outside = DataTransferError

-- the places of a transfer's bytes, or the status of its first fault
abbrev pub places_unless : Option PrpError → List ℕ → Result (List ℕ) StatusCode
places_unless None places = Ok places
places_unless (Some fault) places = Err (prp_status fault)

-- the places of a PRP transfer, or the status of its first fault
unfoldable pub places_of : prp.PrpTransfer → Result (List ℕ) StatusCode
places_of t = places_unless (prp.first_fault t) (prp.transfer_places t)

-- a length that a data pointer can have; the host sends at most a page of 4,096 bytes
abbrev pub HasRoom : Transfer → Type 0
HasRoom NoData = Unit {0}
HasRoom (ToHost n) = (0 < n) × (n ≤ prp.most_bytes)
HasRoom (FromHost n) = (0 < n) × (n ≤ 4096)

-- data that is longer than the limit is refused
abbrev pub within : ℕ → Transfer → Result Transfer StatusCode
within limit moves = if nat_lt limit (length_of moves) then Err InvalidFieldInCommand else Ok moves

-- the data transfer of an entry, by the rules that come before those for its data pointer
abbrev pub moves_of : ℕ → Sqe → Result Transfer StatusCode
moves_of limit e = transfer_of e >>= within limit

-- what an entry asks for with the host's data, wherever that is stored: a command, or the status of
-- the first rule that it breaks
abbrev pub asked_by : ℕ → Sqe → List ℕ → Result Command StatusCode
asked_by limit e «data» = do
  moves ← moves_of limit e
  command_of e «data»

-- the places of an entry's data in the host's memory; the data pointer of an entry without data is
-- ignored
abbrev pub data_places : ℕ → List ℕ → Sqe → Transfer → Result (List ℕ) StatusCode
data_places page_size bytes e NoData = Ok []
data_places page_size bytes e (ToHost n) = places_of (prp.transfer page_size bytes e.prp1 e.prp2 n)
data_places page_size bytes e (FromHost n) =
    places_of (prp.transfer page_size bytes e.prp1 e.prp2 n)

-- the bytes that the host sends
abbrev pub sent_from : Transfer → List ℕ → List ℕ → List ℕ
sent_from NoData bytes places = []
sent_from (ToHost n) bytes places = []
sent_from (FromHost n) bytes places = read_at bytes places

-- a command, and the places of its data
pub record Call : Type 0 where
  pub command : Command
  pub places : List ℕ

-- the command of a call, or the status of the refusal
abbrev pub command_in : Result Call StatusCode → Result Command StatusCode
command_in (Ok call) = Ok call.command
command_in (Err code) = Err code

-- the rules in order: those for the entry alone, that for the length of its data, those for its
-- data pointer, and those for the data that the host sends
abbrev pub call_of : ℕ → ℕ → List ℕ → Sqe → Result Call StatusCode
call_of page_size limit bytes e = do
  asked ← transfer_of e
  moves ← within limit asked
  places ← data_places page_size bytes e moves
  command ← command_of e (sent_from moves bytes places)
  Ok (record { command = command; places = places })
