-- What an entry zeroes, for a caller that clears data by other means than zeros.
use Rattle.std.specs.Prelude.{◌≡◌, ◌⊎◌, ℕ, zero, suc, ◌/◌, Bool, if◌then◌else◌, length, List, [], ◌∷◌, ◌++◌}
use Rattle.std.specs.Prelude.{Result, Ok, Err}
use Rattle.nv_layout.specs.Steps.{◌>>=◌}
use Rattle.nv_layout.specs.declared.sqe.Sqe.{Sqe}
use Rattle.nv_prp.specs.Place.{read_at}
use Rattle.nv_blocks.specs.Blocks.{zeroed}
use Rattle.nv_blocks.specs.Command.{command_of, extent_of, length_of, opcode_by}
use Rattle.nv_blocks.specs.Effect.{Effect, effect, execution, places_of}
use Rattle.nv_blocks.specs.Ranges.{are_within, range_at}
use Rattle.nv_blocks.specs.declared.command.Action.{Action}
use Rattle.nv_blocks.specs.declared.command.Action.TheVariants.{Read, Write, Compare, WriteZeroes, Verify}
use Rattle.nv_blocks.specs.declared.command.Command.{Command}
use Rattle.nv_blocks.specs.declared.command.Command.TheVariants as command
use Rattle.nv_blocks.specs.declared.command.Extent.{Extent}
use Rattle.nv_blocks.specs.declared.command.Opcode.TheVariants.{OnBlocks, DatasetManagement}
use Rattle.nv_blocks.specs.declared.refusal.Refusal.{Refusal}
use Rattle.nv_blocks.specs.declared.refusal.Refusal.TheVariants.{LbaOutOfRange}
use Rattle.nv_blocks.specs.declared.terms.Terms.{Terms}

-- the bytes of the first ranges of a list, in order
abbrev pub listed : ℕ → List ℕ → ℕ → List Extent
listed block_size list zero = []
listed block_size list (suc n) =
    let range = range_at list n in
    listed block_size list n ++ extent_of block_size range.first range.count ∷ []

-- what is zeroed by ranges of a list, which must all lie within data of this size
unfoldable pub zeroed_by : ℕ → ℕ → ℕ → Bool → List ℕ → Result (List Extent) Refusal
zeroed_by size ranges block_size deallocates list =
    if are_within (size / block_size) list ranges
    then Ok (if deallocates then listed block_size list ranges else [])
    else Err LbaOutOfRange

-- what an action zeroes of the blocks in an extent
abbrev pub zeroed_at : Action → Extent → List Extent
zeroed_at Read extent = []
zeroed_at Write extent = []
zeroed_at Compare extent = []
zeroed_at WriteZeroes extent = extent ∷ []
zeroed_at Verify extent = []

-- what a command zeroes in data of this size, if the host sends this list
abbrev pub zeroed_in : ℕ → Command → List ℕ → Result (List Extent) Refusal
zeroed_in size command.Flush list = Ok []
zeroed_in size (command.OnBlocks action extent) list = Ok (zeroed_at action extent)
zeroed_in size (command.DatasetManagement ranges block_size deallocates) list =
    zeroed_by size ranges block_size deallocates list

-- what an entry zeroes in data of this size, or the first rule that it breaks
unfoldable pub zeroing : Terms → ℕ → ℕ → List ℕ → Sqe → Result (List Extent) Refusal
zeroing terms page_size size bytes e = do
  asked ← command_of terms size e
  at ← places_of page_size bytes e (length_of asked)
  zeroed_in size asked (read_at bytes at)

-- ---- law

-- data after extents were zeroed, one after another
abbrev pub all_zeroed : List ℕ → List Extent → List ℕ
all_zeroed stored [] = stored
all_zeroed stored (extent ∷ extents) = all_zeroed (zeroed stored extent) extents

-- the effect of zeroing these extents, or the refusal
abbrev pub effect_by : Result (List Extent) Refusal → List ℕ → List ℕ → Result Effect Refusal
effect_by (Ok extents) stored bytes = Ok (effect (all_zeroed stored extents) bytes)
effect_by (Err refusal) stored bytes = Err refusal

-- Write Zeroes and Dataset Management do no more than to zero what they zero
abbrev pub ZeroingIsExecution : Type 0
ZeroingIsExecution =
    (terms : Terms) (page_size : ℕ) (stored bytes : List ℕ) (e : Sqe)
    → (opcode_by e.opcode ≡ Ok (OnBlocks WriteZeroes)) ⊎ (opcode_by e.opcode ≡ Ok DatasetManagement)
    → execution terms page_size stored bytes e
    ≡ effect_by (zeroing terms page_size (length stored) bytes e) stored bytes
