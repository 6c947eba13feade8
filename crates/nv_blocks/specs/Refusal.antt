-- The statuses of refusals.
use Rattle.std.specs.Prelude.{ℕ, false, true}
use Rattle.nv_layout.specs.declared.cqe.Status.{Status}
use Rattle.nv_blocks.specs.declared.refusal.Refusal.{Refusal}
use Rattle.nv_blocks.specs.declared.refusal.Refusal.TheVariants.{InvalidCommandOpcode, InvalidFieldInCommand}
use Rattle.nv_blocks.specs.declared.refusal.Refusal.TheVariants.{DataTransferError, InvalidNamespaceOrFormat}
use Rattle.nv_blocks.specs.declared.refusal.Refusal.TheVariants.{PrpOffsetInvalid, LbaOutOfRange}
use Rattle.nv_blocks.specs.declared.refusal.Refusal.TheVariants.{CapacityExceeded, CompareFailure}

-- a status with this status code type and status code that says Do Not Retry
abbrev pub final : ℕ → ℕ → Status
final sct sc = record { sc = sc; sct = sct; crd = 0; more = false; dnr = true }

-- the status of each refusal
abbrev pub status_of_refusal : Refusal → Status
status_of_refusal InvalidCommandOpcode = final 0 0x01
status_of_refusal InvalidFieldInCommand = final 0 0x02
status_of_refusal DataTransferError = final 0 0x04
status_of_refusal InvalidNamespaceOrFormat = final 0 0x0b
status_of_refusal PrpOffsetInvalid = final 0 0x13
status_of_refusal LbaOutOfRange = final 0 0x80
status_of_refusal CapacityExceeded = final 0 0x81
status_of_refusal CompareFailure = final 2 0x85
