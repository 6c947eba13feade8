-- Commands as submission queue entries.
use Rattle.std.specs.Prelude.{ℕ}
use Rattle.nv_layout.specs.declared.sqe.Sqe.{Sqe}
use Rattle.nv_command.specs.Form.{namespace_of}
use Rattle.nv_command.specs.Form.{form_of}
use Rattle.nv_command.specs.declared.command.Command.{Command}
use Rattle.nv_command.specs.declared.transfer.Fields.{Fields}

-- the entry with these fields, this NSID and this command identifier; everything else is 0
abbrev pub entry_with : Fields → ℕ → ℕ → Sqe
entry_with f nsid cid = record {
  opcode = f.opcode;
  fuse = 0;
  psdt = 0;
  cid = cid;
  nsid = nsid;
  mptr = 0;
  prp1 = 0;
  prp2 = 0;
  cdw10 = f.cdw10;
  cdw11 = f.cdw11;
  cdw12 = f.cdw12;
  cdw13 = f.cdw13;
  cdw14 = 0;
  cdw15 = 0;
}

-- the opcode of a command and its command specific dwords
abbrev pub fields_of : Command → Fields
fields_of k = (form_of k).fields

-- the entry of a command with this command identifier
abbrev pub entry_of : Command → ℕ → Sqe
entry_of k cid = entry_with (fields_of k) (namespace_of k) cid

-- the entry with a data pointer
abbrev pub with_pointer : Sqe → ℕ → ℕ → Sqe
with_pointer e prp1 prp2 = record e { prp1 = prp1; prp2 = prp2 }
