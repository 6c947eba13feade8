-- The law that commands and replies are read back, in the form that other proofs cite.
use Rattle.std.proofs.Common.{◌≡◌, ap, false, lit<, Ok, refl, rules, true}
use Rattle.nv_layout.proofs.IdentifyLaws.{length-bytes_of_new_namespace}
use Rattle.nv_layout.proofs.PartLaws.{length-part}
use Rattle.nv_layout.proofs.RecordLaws.{length-bytes_of_ctrl_list}
use Rattle.nv_command.proofs.EntryLaws.{entry_with_fits}
use Rattle.nv_command.proofs.FeatureLaws.{get_feature_back, get_feature_fits, set_feature_back}
use Rattle.nv_command.proofs.FeatureLaws.{set_feature_fits}
use Rattle.nv_command.proofs.FormatLaws.{format_back, format_fits}
use Rattle.nv_command.proofs.IdentifyLaws.{identify_fits}
use Rattle.nv_command.proofs.LogLaws.{dwords_back, get_log_back, get_log_fits, log_arrives}
use Rattle.nv_command.specs.Logs.{IsSendable, without_phases}
use Rattle.nv_command.specs.Form.{log_data}
use Rattle.nv_command.specs.Received.{received}
use Rattle.nv_command.proofs.ManagementLaws.{attachment_back, attachment_fits, create_back}
use Rattle.nv_command.proofs.ManagementLaws.{management_fits}
use Rattle.nv_command.specs.Reply.{FitsRecord, IsReplyTo, data_of, dword0_of, reply_in}
use Rattle.nv_command.proofs.ReplyLaws.{length_of_page, page_arrives}
use Rattle.nv_command.specs.Travel.{CommandsTravel, RepliesFit, RepliesTravel}
use Rattle.nv_command.specs.declared.command.Command.{Command}
use Rattle.nv_command.specs.declared.command.Command.TheVariants.{IdentifyController}
use Rattle.nv_command.specs.declared.command.Command.TheVariants.{IdentifyNamespace}
use Rattle.nv_command.specs.declared.command.Command.TheVariants.{AllocatedNamespace, ActiveList}
use Rattle.nv_command.specs.declared.command.Command.TheVariants.{AllocatedList, Create, Delete}
use Rattle.nv_command.specs.declared.command.Command.TheVariants.{Attachment, Format, GetFeature}
use Rattle.nv_command.specs.declared.command.Command.TheVariants.{SetFeature, GetLog}
use Rattle.nv_command.specs.declared.reply.Reply.{Reply}

-- each command that fits arrives
pub commands_travel : CommandsTravel
commands_travel IdentifyController cid fits low =
    assumption (entry_with_fits _ 0 cid (identify_fits 0x01 (lit< tt)) (lit< tt) low)
commands_travel (IdentifyNamespace n) cid fits low =
    assumption (entry_with_fits _ n cid (identify_fits 0x00 (lit< tt)) fits low)
commands_travel (AllocatedNamespace n) cid fits low =
    assumption (entry_with_fits _ n cid (identify_fits 0x11 (lit< tt)) fits low)
commands_travel (ActiveList n) cid fits low =
    assumption (entry_with_fits _ n cid (identify_fits 0x02 (lit< tt)) fits low)
commands_travel (AllocatedList n) cid fits low =
    assumption (entry_with_fits _ n cid (identify_fits 0x10 (lit< tt)) fits low)
commands_travel (Create w) cid fits low =
    assumption (
      entry_with_fits _ 0 cid (management_fits 0x0 (lit< tt)) (lit< tt) low,
      create_back w fits,
      length-bytes_of_new_namespace w,
    )
commands_travel (Delete n) cid fits low =
    assumption (entry_with_fits _ n cid (management_fits 0x1 (lit< tt)) fits low)
commands_travel (Attachment n true ids) cid fits low =
    assumption (
      entry_with_fits _ n cid (attachment_fits true) fits.nsid low,
      attachment_back true n ids fits,
      length-bytes_of_ctrl_list ids fits.list.count,
    )
commands_travel (Attachment n false ids) cid fits low =
    assumption (
      entry_with_fits _ n cid (attachment_fits false) fits.nsid low,
      attachment_back false n ids fits,
      length-bytes_of_ctrl_list ids fits.list.count,
    )
commands_travel (Format f) cid fits low =
    assumption (entry_with_fits _ f.nsid cid (format_fits f) fits.nsid low, format_back f fits cid)
commands_travel (GetFeature x) cid fits low =
    assumption (entry_with_fits _ x.nsid cid (get_feature_fits x fits) fits.nsid low, get_feature_back x fits cid)
commands_travel (SetFeature x) cid fits low =
    assumption (entry_with_fits _ x.nsid cid (set_feature_fits x fits) fits.nsid low, set_feature_back x fits cid)
commands_travel (GetLog x) cid fits low = record {
  fits = entry_with_fits _ x.nsid cid (get_log_fits x fits) fits.nsid low;
  transfer = λ p q. ap (λ d. Ok (log_data d)) (dwords_back x.lid x.dwords fits.some fits.dwords);
  command = get_log_back x fits cid;
  sent = refl;
}

-- ---- replies

-- for a command that reads no log, the form says how long the page of its reply is
pub replies_fit : RepliesFit
replies_fit h e f g = search (rules, length-part, length_of_page)

-- the reply to a command whose reply can be read is read back from dword 0 and its data
replies_arrive : (k : Command) (r : Reply) → IsReplyTo k r → FitsRecord r → IsSendable k
    → reply_in k (dword0_of r) (data_of k r) ≡ received k (without_phases r)
replies_arrive k r h e f = search (rules, log_arrives, page_arrives)

-- each reply that fits its record, to a command whose reply can be read, arrives
pub replies_travel : RepliesTravel
replies_travel k r is fits sends = search (rules, replies_fit, replies_arrive)
