-- The command of an entry, or the status of the first rule that the entry breaks.
use Rattle.std.specs.Prelude.{ℕ, ◌==◌, ◌&&◌, Bool, List, Result, Ok, Err, if◌then◌else◌}
use Rattle.nv_layout.specs.declared.sqe.Sqe.{Sqe}
use Rattle.nv_command.specs.Command.{transfer_by}
use Rattle.nv_command.specs.Features.{get_feature_command, set_feature_command}
use Rattle.nv_command.specs.Form.{page_from_host}
use Rattle.nv_command.specs.Format.{format_command}
use Rattle.nv_command.specs.Identify.{identify_command}
use Rattle.nv_command.specs.Logs.{get_log_command}
use Rattle.nv_command.specs.Management.{attachment_decoded, attachment_in, create_in, management_decoded}
use Rattle.nv_layout.specs.Steps.{◌>>=◌}
use Rattle.nv_command.specs.declared.command.Command.{Command}
use Rattle.nv_command.specs.declared.decoded.Decoded.{Decoded}
use Rattle.nv_command.specs.declared.decoded.Decoded.TheVariants as decoded
use Rattle.nv_command.specs.declared.decoded.Opcode.{Opcode}
use Rattle.nv_command.specs.declared.decoded.Opcode.TheVariants.{Identify, NamespaceManagement}
use Rattle.nv_command.specs.declared.decoded.Opcode.TheVariants.{NamespaceAttachment, FormatNvm}
use Rattle.nv_command.specs.declared.decoded.Opcode.TheVariants.{GetFeatures, SetFeatures, GetLogPage}
use Rattle.nv_command.specs.declared.status_code.StatusCode.{StatusCode}
use Rattle.nv_command.specs.declared.status_code.StatusCode.TheVariants.{InvalidCommandOpcode}
use Rattle.nv_command.specs.declared.status_code.StatusCode.TheVariants.{InvalidFieldInCommand}
use Rattle.nv_command.specs.declared.transfer.Transfer.{Transfer}

-- the operation of an opcode, or Invalid Command Opcode if it has none
abbrev pub opcode_by : ℕ → Result Opcode StatusCode
opcode_by n =
    if n == 0x06 then Ok Identify
    else (if n == 0x0d then Ok NamespaceManagement
    else (if n == 0x15 then Ok NamespaceAttachment
    else (if n == 0x80 then Ok FormatNvm
    else (if n == 0x0a then Ok GetFeatures
    else (if n == 0x09 then Ok SetFeatures
    else (if n == 0x02 then Ok GetLogPage
    else Err InvalidCommandOpcode))))))

-- an entry that is neither fused nor uses SGLs
abbrev pub is_plain : Sqe → Bool
is_plain e = e.fuse == 0 && e.psdt == 0

-- the opcode of an entry, if it is known and the entry is plain
abbrev pub opcode_of : Sqe → Result Opcode StatusCode
opcode_of e = do
  opcode ← opcode_by e.opcode
  if is_plain e then Ok opcode else Err InvalidFieldInCommand

-- what an entry asks for by its opcode, before the data that the host sends is read
abbrev pub decoded_as : Opcode → Sqe → Result Decoded StatusCode
decoded_as Identify e = do
  command ← identify_command e
  Ok (decoded.Whole command)
decoded_as NamespaceManagement e = management_decoded e
decoded_as NamespaceAttachment e = attachment_decoded e
decoded_as FormatNvm e = Ok (decoded.Whole (format_command e))
decoded_as GetFeatures e = Ok (decoded.Whole (get_feature_command e))
decoded_as SetFeatures e = Ok (decoded.Whole (set_feature_command e))
decoded_as GetLogPage e = Ok (decoded.Whole (get_log_command e))

-- what an entry asks for, or the status of the first rule that it breaks, before the host's data is read
abbrev pub decoded_of : Sqe → Result Decoded StatusCode
decoded_of e = do
  opcode ← opcode_of e
  decoded_as opcode e

-- the direction and the length of its data
abbrev pub transfer_in : Decoded → Transfer
transfer_in (decoded.Whole k) = transfer_by k
transfer_in d = page_from_host

-- the command with the data from the host
abbrev pub command_with : Decoded → List ℕ → Result Command StatusCode
command_with (decoded.Whole k) «data» = Ok k
command_with decoded.Create «data» = create_in «data»
command_with (decoded.Attachment n detach) «data» = attachment_in detach n «data»

-- the direction and the length of an entry's data
abbrev pub transfer_of : Sqe → Result Transfer StatusCode
transfer_of e = do
  asked ← decoded_of e
  Ok (transfer_in asked)

-- the command of an entry and of the data from the host
abbrev pub command_of : Sqe → List ℕ → Result Command StatusCode
command_of e «data» = do
  asked ← decoded_of e
  command_with asked «data»
