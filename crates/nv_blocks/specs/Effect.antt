-- What an entry does to a namespace's data and to the host's memory, or why it is refused.
use Rattle.std.specs.Prelude.{ℕ, ◌==◌, Bool, List, [], if◌then◌else◌, length, Option, Some, None}
use Rattle.std.specs.Prelude.{Result, Ok, Err}
use Rattle.std.specs.Str.{bytes_eq}
use Rattle.nv_layout.specs.Steps.{◌>>=◌}
use Rattle.nv_layout.specs.declared.sqe.Sqe.{Sqe}
use Rattle.nv_prp.specs.Place.{read_at, written_at}
use Rattle.nv_prp.specs.Transfer.{first_fault, transfer, transfer_places}
use Rattle.nv_prp.specs.declared.error.PrpError.{PrpError}
use Rattle.nv_prp.specs.declared.error.PrpError.TheVariants.{Offset, Outside}
use Rattle.nv_blocks.specs.Blocks.{stored_in, with_stored, zeroed}
use Rattle.nv_blocks.specs.Command.{command_of, length_of}
use Rattle.nv_blocks.specs.Ranges.{managed}
use Rattle.nv_blocks.specs.declared.command.Action.{Action}
use Rattle.nv_blocks.specs.declared.command.Action.TheVariants.{Read, Write, Compare, WriteZeroes, Verify}
use Rattle.nv_blocks.specs.declared.command.Command.{Command}
use Rattle.nv_blocks.specs.declared.command.Command.TheVariants.{Flush, OnBlocks, DatasetManagement}
use Rattle.nv_blocks.specs.declared.command.Extent.{Extent}
use Rattle.nv_blocks.specs.declared.refusal.Refusal.{Refusal}
use Rattle.nv_blocks.specs.declared.refusal.Refusal.TheVariants.{CapacityExceeded, CompareFailure}
use Rattle.nv_blocks.specs.declared.refusal.Refusal.TheVariants.{DataTransferError, PrpOffsetInvalid}
use Rattle.nv_blocks.specs.declared.terms.Terms.{Terms}

-- ---- the places of an entry's data in the host's memory

-- the refusal of a fault in a PRP
abbrev pub prp_refusal : PrpError → Refusal
prp_refusal Offset = PrpOffsetInvalid
prp_refusal Outside = DataTransferError

-- the places of a transfer's bytes, or the refusal of its first fault
abbrev pub places_unless : Option PrpError → List ℕ → Result (List ℕ) Refusal
places_unless None at = Ok at
places_unless (Some fault) at = Err (prp_refusal fault)

-- the places of so many bytes; the data pointer of an entry without data is ignored
unfoldable pub places_of : ℕ → List ℕ → Sqe → ℕ → Result (List ℕ) Refusal
places_of page_size bytes e len =
    let t = transfer page_size bytes e.prp1 e.prp2 len in
    if len == 0 then Ok [] else places_unless (first_fault t) (transfer_places t)

-- the host's memory after bytes were sent to an entry's data, one byte after the other
unfoldable pub sent : ℕ → Sqe → List ℕ → List ℕ → Result (List ℕ) Refusal
sent page_size e written bytes = do
  at ← places_of page_size bytes e (length written)
  Ok (written_at bytes at written)

-- ---- the effect of a command

-- a namespace's data and the host's memory
pub record Effect : Type 0 where
  pub stored : List ℕ
  pub bytes : List ℕ

-- these two
abbrev pub effect : List ℕ → List ℕ → Effect
effect stored bytes = record { stored = stored; bytes = bytes }

-- the effect of an action on the blocks in an extent, whose data is at these places of the memory
abbrev pub acted : Action → Bool → Extent → List ℕ → List ℕ → List ℕ → Result Effect Refusal
acted Read is_exhausted extent at stored bytes =
    Ok (effect stored (written_at bytes at (stored_in stored extent)))
acted Write is_exhausted extent at stored bytes =
    if is_exhausted then Err CapacityExceeded else Ok (effect (with_stored stored extent (read_at bytes at)) bytes)
acted Compare is_exhausted extent at stored bytes =
    if bytes_eq (read_at bytes at) (stored_in stored extent) then Ok (effect stored bytes) else Err CompareFailure
acted WriteZeroes is_exhausted extent at stored bytes = Ok (effect (zeroed stored extent) bytes)
acted Verify is_exhausted extent at stored bytes = Ok (effect stored bytes)

-- the effect of a command, whose data is at these places of the memory
abbrev pub effect_of : Terms → List ℕ → List ℕ → List ℕ → Command → Result Effect Refusal
effect_of terms at stored bytes Flush = Ok (effect stored bytes)
effect_of terms at stored bytes (OnBlocks action extent) = acted action terms.is_exhausted extent at stored bytes
effect_of terms at stored bytes (DatasetManagement ranges block_size deallocates) =
    managed ranges block_size deallocates (read_at bytes at) stored >>= (λ new. Ok (effect new bytes))

-- the effect of an entry, or the first rule that it breaks: those for the entry alone, those for its
-- data pointer, and those for the data
unfoldable pub execution : Terms → ℕ → List ℕ → List ℕ → Sqe → Result Effect Refusal
execution terms page_size stored bytes e = do
  command ← command_of terms (length stored) e
  at ← places_of page_size bytes e (length_of command)
  effect_of terms at stored bytes command
