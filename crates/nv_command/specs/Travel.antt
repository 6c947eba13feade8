-- Commands and replies are read back as they were sent.
use Rattle.std.specs.Prelude.{◌≡◌, ℕ, ◌^◌, ◌<◌, length, Ok}
use Rattle.nv_layout.specs.Sqe.{SqeFits}
use Rattle.nv_command.specs.Command.{CommandFits, bytes_from_host, bytes_to_host, host_data_of}
use Rattle.nv_command.specs.Command.{transfer_by}
use Rattle.nv_command.specs.Decoding.{command_of, transfer_of}
use Rattle.nv_command.specs.Entry.{entry_of, with_pointer}
use Rattle.nv_command.specs.Logs.{IsSendable, without_phases}
use Rattle.nv_command.specs.Received.{received}
use Rattle.nv_command.specs.Reply.{FitsRecord, IsReplyTo, data_of, dword0_of, reply_in}
use Rattle.nv_command.specs.declared.command.Command.{Command}
use Rattle.nv_command.specs.declared.reply.Reply.{Reply}

-- the entry of a command fits its bits, and wherever its data is stored, it decodes to the command
-- and to its data transfer
pub record Arrives (k : Command) (cid : ℕ) : Type 0 where
  pub fits : SqeFits (entry_of k cid)
  pub transfer : (prp1 prp2 : ℕ)
      → transfer_of (with_pointer (entry_of k cid) prp1 prp2) ≡ Ok (transfer_by k)
  pub command : (prp1 prp2 : ℕ)
      → command_of (with_pointer (entry_of k cid) prp1 prp2) (host_data_of k) ≡ Ok k
  pub sent : length (host_data_of k) ≡ bytes_from_host (transfer_by k)

-- each command that fits arrives, with any command identifier of 16 bits
abbrev pub CommandsTravel : Type 0
CommandsTravel = (k : Command) (cid : ℕ) → CommandFits k → cid < 2 ^ 16 → Arrives k cid

-- the data of a reply has the length that its command says
abbrev pub RepliesFit : Type 0
RepliesFit = (k : Command) (r : Reply) → IsReplyTo k r → FitsRecord r
    → length (data_of k r) ≡ bytes_to_host (transfer_by k)

-- the data of a reply is read back as the reply, without the phase tags of entries, and with as
-- many entries as were requested
pub record ArrivesFor (k : Command) (r : Reply) : Type 0 where
  pub bytes : length (data_of k r) ≡ bytes_to_host (transfer_by k)
  pub reply : reply_in k (dword0_of r) (data_of k r) ≡ received k (without_phases r)

-- each reply that fits its record, to a command whose reply can be read, arrives
abbrev pub RepliesTravel : Type 0
RepliesTravel = (k : Command) (r : Reply) → IsReplyTo k r → FitsRecord r → IsSendable k
    → ArrivesFor k r
