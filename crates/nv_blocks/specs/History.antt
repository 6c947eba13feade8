-- What was done to the blocks of namespaces, the newest change first.
use Rattle.std.specs.Prelude.{ℕ, zero, suc, ◌==◌, ◌+◌, ◌-◌, ◌*◌, ◌&&◌, Bool, if◌then◌else◌, nat_le, nat_lt, List}
use Rattle.std.specs.Prelude.{[], ◌∷◌, ◌++◌}
use Rattle.std.specs.Prelude.{Option, Some, None, replicate, Result, Ok, Err}
use Rattle.nv_host.specs.Bytes.{bytes_at}
use Rattle.nv_layout.specs.declared.sqe.Sqe.{Sqe}
use Rattle.nv_prp.specs.Place.{read_at}
use Rattle.nv_prp.specs.Transfer.{transfer, transfer_places}
use Rattle.nv_blocks.specs.Command.{block_count, deallocates, first_block, opcode_by, range_count}
use Rattle.nv_blocks.specs.Effect.{Effect, execution}
use Rattle.nv_blocks.specs.Ranges.{range_at}
use Rattle.nv_blocks.specs.declared.command.Action.TheVariants.{Read, Write, Compare, WriteZeroes, Verify}
use Rattle.nv_blocks.specs.declared.command.Opcode.{Opcode}
use Rattle.nv_blocks.specs.declared.command.Opcode.TheVariants.{Flush, OnBlocks, DatasetManagement}
use Rattle.nv_blocks.specs.declared.refusal.Refusal.{Refusal}
use Rattle.nv_blocks.specs.declared.terms.Namespace.{Namespace}
use Rattle.nv_blocks.specs.declared.terms.Terms.{Terms}

-- ---- changes of blocks

-- a change of a namespace by its NSID, with the size of its blocks: it was made or formatted, these
-- bytes were written to blocks from the first one on, or blocks were zeroed or deallocated
pub data Change : Type 0 where
  Made : ℕ → ℕ → Change
  Written : ℕ → ℕ → ℕ → ℕ → List ℕ → Change
  Cleared : ℕ → ℕ → ℕ → ℕ → Change

-- block b is one of the blocks from the first one on
abbrev pub is_among : ℕ → ℕ → ℕ → Bool
is_among first count b = nat_le first b && nat_lt b (first + count)

-- block b of namespace n after a change, if it was this before
abbrev pub changed : Change → ℕ → ℕ → List ℕ → List ℕ
changed (Made nsid size) n b before = if nsid == n then replicate size 0 else before
changed (Written nsid size first count written) n b before =
    if (nsid == n) && is_among first count b then bytes_at written ((b - first) * size) size else before
changed (Cleared nsid size first count) n b before =
    if (nsid == n) && is_among first count b then replicate size 0 else before

-- block b of namespace n: what the newest change of it left, and nothing before there was one
abbrev pub newest : List Change → ℕ → ℕ → List ℕ
newest [] n b = []
newest (change ∷ older) n b = changed change n b (newest older n b)

-- ---- the changes of a command that succeeded

-- the places of so many bytes of an entry's data in the host's memory
abbrev pub host_places : ℕ → List ℕ → Sqe → ℕ → List ℕ
host_places page_size bytes e len = transfer_places (transfer page_size bytes e.prp1 e.prp2 len)

-- what the host's memory has there
abbrev pub host_bytes : ℕ → List ℕ → Sqe → ℕ → List ℕ
host_bytes page_size bytes e len = read_at bytes (host_places page_size bytes e len)

-- the first ranges of a list were cleared
abbrev pub cleared_ranges : Namespace → List ℕ → ℕ → List Change
cleared_ranges namespace list zero = []
cleared_ranges namespace list (suc n) =
    let range = range_at list n in
    Cleared namespace.nsid namespace.block_size range.first range.count ∷ cleared_ranges namespace list n

-- the changes of a command: a write stores the host's bytes in the blocks that it names, Write Zeroes clears them, and
-- Dataset Management clears the blocks that the host lists, if it deallocates
abbrev pub changes_as : Opcode → Namespace → ℕ → List ℕ → Sqe → List Change
changes_as (OnBlocks Write) namespace page_size bytes e =
    Written namespace.nsid namespace.block_size (first_block e) (block_count e)
    (host_bytes page_size bytes e (block_count e * namespace.block_size)) ∷ []
changes_as (OnBlocks WriteZeroes) namespace page_size bytes e =
    Cleared namespace.nsid namespace.block_size (first_block e) (block_count e) ∷ []
changes_as DatasetManagement namespace page_size bytes e =
    if deallocates e
    then cleared_ranges namespace (host_bytes page_size bytes e (16 * range_count e)) (range_count e)
    else []
changes_as Flush namespace page_size bytes e = []
changes_as (OnBlocks Read) namespace page_size bytes e = []
changes_as (OnBlocks Compare) namespace page_size bytes e = []
changes_as (OnBlocks Verify) namespace page_size bytes e = []

-- the changes of an entry by its opcode, if it is known, in the namespace that is lent, if one is
abbrev pub changes_by : Result Opcode Refusal → Option Namespace → ℕ → List ℕ → Sqe → List Change
changes_by (Ok opcode) (Some namespace) page_size bytes e = changes_as opcode namespace page_size bytes e
changes_by (Ok opcode) None page_size bytes e = []
changes_by (Err refusal) namespace page_size bytes e = []

-- these changes, if the entry was successful
abbrev pub if_done : Result Effect Refusal → List Change → List Change
if_done (Ok effect) changes = changes
if_done (Err refusal) changes = []

-- the changes of an entry under the terms of a turn
abbrev pub changes_of : Terms → ℕ → List ℕ → List ℕ → Sqe → List Change
changes_of terms page_size stored bytes e =
    if_done (execution terms page_size stored bytes e)
    (changes_by (opcode_by e.opcode) terms.namespace page_size bytes e)

-- the bytes of so many blocks from the first one on
abbrev pub blocks_from : (ℕ → List ℕ) → ℕ → ℕ → List ℕ
blocks_from block first zero = []
blocks_from block first (suc n) = blocks_from block first n ++ block (first + n)
