-- How long messages are.
use Rattle.std.proofs.Common.{◌≤◌, arith, Option, None, Some, length, length-append}
use Rattle.std.proofs.lemmas.Grind.{common_steps}
use Rattle.std.specs.Prelude.{codes}
use Rattle.std.specs.Option.{option_map_or}
use Rattle.nv_command.specs.StatusCode.{name_of_code}
use Rattle.nv_command.specs.declared.status_code.StatusCode.{StatusCode}
use Rattle.nv_command.specs.declared.status_code.StatusCode.TheVariants as code
use Rattle.nv_layout.specs.declared.cqe.Status.{Status}
use Rattle.nv_line.specs.LineFault.{fault_text}
use Rattle.nv_line.specs.OptionName.{name_of}
use Rattle.nv_line.specs.declared.fault.LineFault.{LineFault}
use Rattle.nv_line.specs.declared.fault.LineFault.TheVariants as fault
use Rattle.nv_line.specs.declared.option.OptionName.{OptionName}
use Rattle.nv_line.specs.declared.option.OptionName.TheVariants as option
use Rattle.nv_print.specs.Message.{cause_text, message_of, refusal_text}
use Rattle.nv_print.specs.declared.fault.Fault.{Fault}
use Rattle.nv_print.specs.declared.fault.FaultCause.{FaultCause}
use Rattle.nv_print.specs.declared.fault.FaultCause.TheVariants as cause
use Rattle.nv_print.proofs.Lengths.{decimal_length, hexadecimal_length}

-- the name of a status code has at most 100 bytes
code_length : (c : StatusCode) → length (name_of_code c) ≤ 100
code_length code.InvalidCommandOpcode = omega arith
code_length _ = omega arith

-- the name of a status, known or not, has at most 100 bytes
named_length : (o : Option StatusCode) → length (option_map_or name_of_code o (codes "Unknown")) ≤ 100
named_length None = omega arith
named_length (Some c) = code_length c

-- the name of an option has at most 100 bytes
option_length : (o : OptionName) → length (name_of o) ≤ 100
option_length option.NamespaceId = omega arith
option_length _ = omega arith

-- the text of a line's fault has at most 200 bytes
fault_length : (f : LineFault) → length (fault_text f) ≤ 200
fault_length (fault.Number o) = omega (arith, option_length o, length-append (codes "bad number for --") (name_of o))
fault_length fault.NotText = omega arith
fault_length _ = omega arith

-- the text of a refusal has at most 200 bytes
refusal_length : (s : Status) → length (refusal_text s) ≤ 200
refusal_length s = grind (arith, common_steps, named_length, hexadecimal_length, length-append)

-- the text of any cause has at most 200 bytes
cause_length : (c : FaultCause) → length (cause_text c) ≤ 200
cause_length (cause.Line f) = fault_length f
cause_length (cause.Refused s) = refusal_length s

-- a message has at most 65,536 bytes
pub message_length : (f : Fault) → length (message_of f) ≤ 65536
message_length f = grind (arith, common_steps, cause_length, decimal_length, length-append)
