-- How each command travels: the fields of its entry, its data, and the kind of its reply.
use Rattle.std.specs.Prelude.{◌+◌, ℕ, Bool, ◌-◌, ◌*◌, ◌/◌, ◌%◌, ◌^◌}
use Rattle.nv_layout.specs.Bits.{at_bits, bit, bits}
use Rattle.nv_command.specs.declared.transfer.Fields.{Fields}
use Rattle.nv_command.specs.declared.features.FeatureQuery.{FeatureQuery}
use Rattle.nv_command.specs.declared.features.FeatureSetting.{FeatureSetting}
use Rattle.nv_command.specs.declared.command.Command.{Command}
use Rattle.nv_command.specs.declared.command.Command.TheVariants.{IdentifyController, IdentifyNamespace}
use Rattle.nv_command.specs.declared.command.Command.TheVariants.{AllocatedNamespace, ActiveList}
use Rattle.nv_command.specs.declared.command.Command.TheVariants.{AllocatedList, Create, Delete}
use Rattle.nv_command.specs.declared.command.Command.TheVariants.{Attachment, Format, GetFeature}
use Rattle.nv_command.specs.declared.command.Command.TheVariants.{SetFeature, GetLog}
use Rattle.nv_command.specs.declared.transfer.Form.{Form}
use Rattle.nv_command.specs.declared.transfer.ReplyKind.{ReplyKind}
use Rattle.nv_command.specs.declared.transfer.ReplyKind.TheVariants as kind
use Rattle.nv_command.specs.declared.format.NewFormat.{NewFormat}
use Rattle.nv_command.specs.declared.transfer.Transfer.{Transfer}
use Rattle.nv_command.specs.declared.transfer.Transfer.TheVariants.{NoData, ToHost, FromHost}
use Rattle.nv_command.specs.declared.logs.LogQuery.{LogQuery}
use Rattle.nv_command.specs.LogPage.{log_asked, log_kind}

-- a row of the table
abbrev pub form : Fields → ℕ → Transfer → ReplyKind → Form
form fields nsid transfer reply = record {
  fields = fields;
  nsid = nsid;
  transfer = transfer;
  reply = reply;
}

-- the fields of a command that uses no command specific dword but CDW10
abbrev pub short_fields : ℕ → ℕ → Fields
short_fields opcode cdw10 =
    record { opcode = opcode; cdw10 = cdw10; cdw11 = 0; cdw12 = 0; cdw13 = 0 }

-- "Identify command": CDW10 has CNS in bits 7 to 0
abbrev pub identify_fields : ℕ → Fields
identify_fields cns = short_fields 0x06 cns

-- each Identify returns a page
abbrev pub identify_data : Transfer
identify_data = ToHost 4096

-- "Namespace Management command": CDW10 has SEL in bits 3 to 0
abbrev pub management_fields : ℕ → Fields
management_fields select = short_fields 0x0d select

-- "Namespace Attachment command": CDW10 has SEL in bits 3 to 0, 0h to attach and 1h to detach
abbrev pub attachment_fields : Bool → Fields
attachment_fields detach = short_fields 0x15 (bit detach)

-- to create, attach or detach, the host sends a page
abbrev pub page_from_host : Transfer
page_from_host = FromHost 4096

-- "Format NVM command": CDW10 has LBAF in bits 3 to 0, MSET in bit 4, PI in bits 7 to 5, PIL in bit 8 and
-- SES in bits 11 to 9
abbrev pub format_fields : NewFormat → Fields
format_fields f = short_fields 0x80 (at_bits 0 4 f.lbaf + at_bits 4 1 (bit f.mset)
    + at_bits 5 3 f.pi + at_bits 8 1 (bit f.pil) + at_bits 9 3 f.ses)

-- "Get Features command": CDW10 has FID in bits 7 to 0 and SEL in bits 10 to 8
abbrev pub get_feature_fields : FeatureQuery → Fields
get_feature_fields q = record {
  opcode = 0x0a;
  cdw10 = at_bits 0 8 q.fid + at_bits 8 3 q.sel;
  cdw11 = q.cdw11;
  cdw12 = 0;
  cdw13 = 0;
}

-- "Set Features command": CDW10 has FID in bits 7 to 0 and SV in bit 31
abbrev pub set_feature_fields : FeatureSetting → Fields
set_feature_fields x = record {
  opcode = 0x09;
  cdw10 = at_bits 0 8 x.fid + at_bits 31 1 (bit x.save);
  cdw11 = x.value;
  cdw12 = 0;
  cdw13 = 0;
}

-- "Get Log Page command": CDW10 has LID in bits 7 to 0 and NUMDL in bits 31 to 16, CDW11 has NUMDU in bits
-- 15 to 0, and CDW12 and CDW13 have the offset. The number of dwords is zeros-based
abbrev pub get_log_fields : LogQuery → Fields
get_log_fields q = record {
  opcode = 0x02;
  cdw10 = at_bits 0 8 q.lid + at_bits 16 16 (q.dwords - 1);
  cdw11 = bits 16 16 (q.dwords - 1);
  cdw12 = q.offset % 2 ^ 32;
  cdw13 = q.offset / 2 ^ 32;
}

-- a log returns the dwords that are asked for
abbrev pub log_data : ℕ → Transfer
log_data dwords = ToHost (4 * dwords)

-- the opcode and the dwords of the entry, its NSID, its data, and the kind of the reply. The NSID of a
-- list is the one before its first; it is 0 for the controller and for a namespace to create
abbrev pub form_of : Command → Form
form_of IdentifyController = form (identify_fields 0x01) 0 identify_data kind.Controller
form_of (IdentifyNamespace n) = form (identify_fields 0x00) n identify_data kind.Namespace
form_of (AllocatedNamespace n) = form (identify_fields 0x11) n identify_data kind.Namespace
form_of (ActiveList after) = form (identify_fields 0x02) after identify_data kind.List
form_of (AllocatedList after) = form (identify_fields 0x10) after identify_data kind.List
form_of (Create w) = form (management_fields 0x0) 0 page_from_host kind.Number
form_of (Delete n) = form (management_fields 0x1) n NoData kind.Done
form_of (Attachment n detach ids) = form (attachment_fields detach) n page_from_host kind.Done
form_of (Format f) = form (format_fields f) f.nsid NoData kind.Done
form_of (GetFeature q) = form (get_feature_fields q) q.nsid NoData kind.Number
form_of (SetFeature x) = form (set_feature_fields x) x.nsid NoData kind.Done
form_of (GetLog q) =
    form (get_log_fields q) q.nsid (log_data q.dwords) (log_kind (log_asked q.lid))

-- the NSID of the entry, which the error log entry of a refusal names
abbrev pub namespace_of : Command → ℕ
namespace_of k = (form_of k).nsid
