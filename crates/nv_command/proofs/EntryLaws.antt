-- An entry fits its bits if its fields do.
use Rattle.std.proofs.Common.{rules, ◌≡◌, ℕ, ◌<◌, ◌^◌, Ok}
use Rattle.nv_layout.specs.Sqe.{SqeFits}
use Rattle.nv_command.specs.Command.{host_data_of}
use Rattle.nv_command.specs.Decoding.{command_of}
use Rattle.nv_command.specs.Entry.{entry_of, entry_with, with_pointer}
use Rattle.nv_command.specs.declared.command.Command.{Command}
use Rattle.nv_command.specs.declared.transfer.Fields.{Fields}

-- each field fits its bits in an entry
pub record FieldsFit (f : Fields) : Type 0 where
  pub opcode : f.opcode < 2 ^ 8
  pub cdw10 : f.cdw10 < 2 ^ 32
  pub cdw11 : f.cdw11 < 2 ^ 32
  pub cdw12 : f.cdw12 < 2 ^ 32
  pub cdw13 : f.cdw13 < 2 ^ 32

-- an entry with fields, an NSID and a command identifier that fit is one that fits its bits
pub entry_with_fits : (f : Fields) (nsid cid : ℕ) → FieldsFit f → nsid < 2 ^ 32 → cid < 2 ^ 16
    → SqeFits (entry_with f nsid cid)
entry_with_fits f nsid cid fits n c = search (rules, fits)

-- wherever its data is stored, the entry of a command is decoded to that command
abbrev pub IsDecoded : Command → Type 0
IsDecoded k = (cid p q : ℕ) → command_of (with_pointer (entry_of k cid) p q) (host_data_of k) ≡ Ok k
