-- What is asked of Format NVM arrives.
use Rattle.std.proofs.Common.{rules, arith}
use Rattle.nv_command.proofs.EntryLaws.{FieldsFit, IsDecoded}
use Rattle.nv_command.specs.Format.{FormatFits}
use Rattle.nv_command.specs.Form.{format_fields}
use Rattle.nv_command.specs.declared.command.Command.TheVariants.{Format}
use Rattle.nv_command.specs.declared.format.NewFormat.{NewFormat}

-- the fields of the entry of any Format NVM fit their bits
pub format_fits : (f : NewFormat) → FieldsFit (format_fields f)
format_fits f = search (rules, arith)

-- the entry of a Format NVM that fits is decoded to that command
pub format_back : (f : NewFormat) → FormatFits f → IsDecoded (Format f)
format_back f fits cid p q = search rules
