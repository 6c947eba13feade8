-- The fields of Identify fit.
use Rattle.std.proofs.Common.{rules, ℕ, ◌<◌, ◌^◌, arith}
use Rattle.nv_command.proofs.EntryLaws.{FieldsFit}
use Rattle.nv_command.specs.Form.{identify_fields}

-- the fields of the entry of an Identify with a CNS of eight bits fit their bits
pub identify_fits : (cns : ℕ) → cns < 2 ^ 8 → FieldsFit (identify_fields cns)
identify_fits cns h = search (rules, arith)
