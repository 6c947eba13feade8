-- Commands: their data, and when their fields fit.
use Rattle.std.specs.Prelude.{ℕ, ◌^◌, ◌<◌, List, []}
use Rattle.nv_layout.specs.CtrlList.{bytes_of_ctrl_list}
use Rattle.nv_layout.specs.NewNamespace.{NewNamespaceFits, bytes_of_new_namespace}
use Rattle.nv_command.specs.Features.{GetFeatureFits, SetFeatureFits}
use Rattle.nv_command.specs.Form.{form_of}
use Rattle.nv_command.specs.Format.{FormatFits}
use Rattle.nv_command.specs.Identify.{IdentifyFits}
use Rattle.nv_command.specs.Logs.{GetLogFits}
use Rattle.nv_command.specs.Management.{AttachmentFits}
use Rattle.nv_command.specs.declared.command.Command.{Command}
use Rattle.nv_command.specs.declared.command.Command.TheVariants.{IdentifyNamespace, AllocatedNamespace}
use Rattle.nv_command.specs.declared.command.Command.TheVariants.{ActiveList, AllocatedList, Create}
use Rattle.nv_command.specs.declared.command.Command.TheVariants.{Delete, Attachment, Format, GetFeature}
use Rattle.nv_command.specs.declared.command.Command.TheVariants.{SetFeature, GetLog}
use Rattle.nv_command.specs.declared.transfer.Transfer.{Transfer}
use Rattle.nv_command.specs.declared.transfer.Transfer.TheVariants.{NoData, ToHost, FromHost}

-- the direction and the length of its data
abbrev pub transfer_by : Command → Transfer
transfer_by k = (form_of k).transfer

-- the data that the host sends with it
abbrev pub host_data_of : Command → List ℕ
host_data_of (Create w) = bytes_of_new_namespace w
host_data_of (Attachment n detach ids) = bytes_of_ctrl_list ids
host_data_of k = []

-- each field fits its bits, if the command has any
abbrev pub CommandFits : Command → Type 0
CommandFits (IdentifyNamespace n) = IdentifyFits n
CommandFits (AllocatedNamespace n) = IdentifyFits n
CommandFits (ActiveList after) = IdentifyFits after
CommandFits (AllocatedList after) = IdentifyFits after
CommandFits (Create w) = NewNamespaceFits w
CommandFits (Delete n) = n < 2 ^ 32
CommandFits (Attachment n detach ids) = AttachmentFits n ids
CommandFits (Format f) = FormatFits f
CommandFits (GetFeature q) = GetFeatureFits q
CommandFits (SetFeature x) = SetFeatureFits x
CommandFits (GetLog q) = GetLogFits q
CommandFits k = Unit {0}

-- how many bytes it has
abbrev pub length_of : Transfer → ℕ
length_of NoData = 0
length_of (ToHost n) = n
length_of (FromHost n) = n

-- how many bytes the host sends to the controller
abbrev pub bytes_from_host : Transfer → ℕ
bytes_from_host NoData = 0
bytes_from_host (ToHost n) = 0
bytes_from_host (FromHost n) = n

-- how many bytes the controller sends to the host
abbrev pub bytes_to_host : Transfer → ℕ
bytes_to_host NoData = 0
bytes_to_host (ToHost n) = n
bytes_to_host (FromHost n) = 0
