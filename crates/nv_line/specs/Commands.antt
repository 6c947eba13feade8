-- The requests of each command, by its options.
use Rattle.std.specs.Prelude.{List, Result, Ok, ◌==◌, ℕ, ◌-◌, Bool, if◌then◌else◌}
use Rattle.clap.specs.Words.{Row}
use Rattle.nv_command.specs.declared.command.Command.TheVariants.{GetFeature, SetFeature, Format}
use Rattle.nv_command.specs.declared.command.Command.TheVariants.{ActiveList, AllocatedList}
use Rattle.nv_command.specs.declared.command.Command.TheVariants.{AllocatedNamespace, IdentifyNamespace}
use Rattle.nv_command.specs.declared.command.Command.TheVariants.{GetLog, Attachment, Create, Delete}
use Rattle.nv_layout.specs.Steps.{◌>>=◌}
use Rattle.nv_line.specs.Values.{flag_in, number_option_in, list_option_in}
use Rattle.nv_line.specs.Options.{cdw11_option, feature_id_option, feature_nsid_option, save_option}
use Rattle.nv_line.specs.Options.{sel_option, value_option, lbaf_option, ms_option, nsid_option}
use Rattle.nv_line.specs.Options.{pi_option, pil_option, ses_option, all_option, first_nsid_option}
use Rattle.nv_line.specs.Options.{force_option, log_entries_option, smart_nsid_option}
use Rattle.nv_line.specs.Options.{controllers_option, dps_option, flbas_option, ncap_option, nmic_option}
use Rattle.nv_line.specs.Options.{nsze_option}
use Rattle.nv_line.specs.declared.device.Device.{Device}
use Rattle.nv_line.specs.declared.fault.LineFault.{LineFault}
use Rattle.nv_line.specs.declared.request.Ask.{Ask}
use Rattle.nv_line.specs.declared.request.Ask.TheVariants.{Send, ErrorLog}
use Rattle.nv_command.specs.declared.command.Command.{Command}

-- the command of get-feature
abbrev pub get_feature_of : List Row → Device → Result Ask LineFault
get_feature_of rows device = do
  nsid ← number_option_in rows feature_nsid_option device
  fid ← number_option_in rows feature_id_option device
  sel ← number_option_in rows sel_option device
  cdw11 ← number_option_in rows cdw11_option device
  Ok (Send (GetFeature (record { fid = fid; sel = sel; nsid = nsid; cdw11 = cdw11 })))

-- the command of set-feature
abbrev pub set_feature_of : List Row → Device → Result Ask LineFault
set_feature_of rows device = do
  nsid ← number_option_in rows feature_nsid_option device
  fid ← number_option_in rows feature_id_option device
  value ← number_option_in rows value_option device
  Ok (Send (SetFeature (record {
    fid = fid;
    value = value;
    save = flag_in rows save_option;
    nsid = nsid;
  })))

-- the command of format
abbrev pub format_of : List Row → Device → Result Ask LineFault
format_of rows device = do
  nsid ← number_option_in rows nsid_option device
  lbaf ← number_option_in rows lbaf_option device
  ses ← number_option_in rows ses_option device
  pi ← number_option_in rows pi_option device
  pil ← number_option_in rows pil_option device
  mset ← number_option_in rows ms_option device
  Ok (Send (Format (record { nsid = nsid; lbaf = lbaf; mset = mset == 1; pi = pi; pil = pil == 1; ses = ses })))

-- the NSIDs above `after`: those attached to the controller, or all allocated ones
abbrev pub list_command : Bool → ℕ → Command
list_command all after = if all then AllocatedList after else ActiveList after

-- the data of a namespace: one attached to the controller, or any allocated one
abbrev pub namespace_command : Bool → ℕ → Command
namespace_command force nsid = if force then AllocatedNamespace nsid else IdentifyNamespace nsid

-- the line names the NSID at which a list begins, and the command the one before it
abbrev pub list_ns_of : List Row → Device → Result Ask LineFault
list_ns_of rows device = do
  first ← number_option_in rows first_nsid_option device
  Ok (Send (list_command (flag_in rows all_option) (first - 1)))

-- the command of id-ns
abbrev pub id_ns_of : List Row → Device → Result Ask LineFault
id_ns_of rows device = do
  nsid ← number_option_in rows nsid_option device
  Ok (Send (namespace_command (flag_in rows force_option) nsid))

-- the command of smart-log: all 512 bytes of the health log
abbrev pub smart_log_of : List Row → Device → Result Ask LineFault
smart_log_of rows device = do
  nsid ← number_option_in rows smart_nsid_option device
  Ok (Send (GetLog (record { lid = 0x02; nsid = nsid; offset = 0; dwords = 128 })))

-- what error-log asks for
abbrev pub error_log_of : List Row → Device → Result Ask LineFault
error_log_of rows device = do
  entries ← number_option_in rows log_entries_option device
  Ok (ErrorLog entries)

-- the command of create-ns
abbrev pub create_ns_of : List Row → Device → Result Ask LineFault
create_ns_of rows device = do
  nsze ← number_option_in rows nsze_option device
  ncap ← number_option_in rows ncap_option device
  flbas ← number_option_in rows flbas_option device
  dps ← number_option_in rows dps_option device
  nmic ← number_option_in rows nmic_option device
  Ok (Send (Create (record { nsze = nsze; ncap = ncap; flbas = flbas; dps = dps; nmic = nmic })))

-- `detach` distinguishes detach-ns from attach-ns
abbrev pub attachment_of : Bool → List Row → Device → Result Ask LineFault
attachment_of detach rows device = do
  nsid ← number_option_in rows nsid_option device
  ids ← list_option_in rows controllers_option
  Ok (Send (Attachment nsid detach ids))

-- the command of delete-ns
abbrev pub delete_ns_of : List Row → Device → Result Ask LineFault
delete_ns_of rows device = do
  nsid ← number_option_in rows nsid_option device
  Ok (Send (Delete nsid))
