-- What an entry asks for, or why it is refused, before its data is looked for. The rules are in the
-- order in which they are checked.
use Rattle.std.specs.Prelude.{ℕ, ◌==◌, ◌+◌, ◌*◌, ◌/◌, ◌%◌, ◌^◌, ◌&&◌, ◌||◌, Bool, true, false}
use Rattle.std.specs.Prelude.{bit_and, if◌then◌else◌, nat_le, nat_lt, not, Option, Some, None, Result, Ok, Err}
use Rattle.nv_layout.specs.Steps.{◌>>=◌}
use Rattle.nv_layout.specs.declared.sqe.Sqe.{Sqe}
use Rattle.nv_blocks.specs.declared.command.Action.{Action}
use Rattle.nv_blocks.specs.declared.command.Action.TheVariants.{Read, Write, Compare, WriteZeroes, Verify}
use Rattle.nv_blocks.specs.declared.command.Command.{Command}
use Rattle.nv_blocks.specs.declared.command.Command.TheVariants as command
use Rattle.nv_blocks.specs.declared.command.Extent.{Extent}
use Rattle.nv_blocks.specs.declared.command.Opcode.{Opcode}
use Rattle.nv_blocks.specs.declared.command.Opcode.TheVariants.{Flush, OnBlocks, DatasetManagement}
use Rattle.nv_blocks.specs.declared.command.Reserved.{Reserved}
use Rattle.nv_blocks.specs.declared.refusal.Refusal.{Refusal}
use Rattle.nv_blocks.specs.declared.refusal.Refusal.TheVariants.{InvalidCommandOpcode, InvalidFieldInCommand}
use Rattle.nv_blocks.specs.declared.refusal.Refusal.TheVariants.{InvalidNamespaceOrFormat, LbaOutOfRange}
use Rattle.nv_blocks.specs.declared.terms.Namespace.{Namespace}
use Rattle.nv_blocks.specs.declared.terms.Terms.{Terms}

-- ---- the opcode

-- the operation of an opcode, or Invalid Command Opcode if it has none
abbrev pub opcode_by : ℕ → Result Opcode Refusal
opcode_by n =
    if n == 0x00 then Ok Flush
    else (if n == 0x01 then Ok (OnBlocks Write)
    else (if n == 0x02 then Ok (OnBlocks Read)
    else (if n == 0x05 then Ok (OnBlocks Compare)
    else (if n == 0x08 then Ok (OnBlocks WriteZeroes)
    else (if n == 0x09 then Ok DatasetManagement
    else (if n == 0x0c then Ok (OnBlocks Verify)
    else Err InvalidCommandOpcode))))))

-- an entry that is neither fused nor uses SGLs
abbrev pub is_plain : Sqe → Bool
is_plain e = e.fuse == 0 && e.psdt == 0

-- the opcode of an entry, if it is known and the entry is plain
abbrev pub opcode_of : Sqe → Result Opcode Refusal
opcode_of e = do
  opcode ← opcode_by e.opcode
  if is_plain e then Ok opcode else Err InvalidFieldInCommand

-- ---- the namespace

-- the namespace that is lent, if it has this NSID
abbrev pub lent_as : Option Namespace → ℕ → Result Namespace Refusal
lent_as (Some namespace) nsid =
    if namespace.nsid == nsid then Ok namespace else Err InvalidNamespaceOrFormat
lent_as None nsid = Err InvalidNamespaceOrFormat

-- the same under the terms of a turn
abbrev pub namespace_of : Terms → ℕ → Result Namespace Refusal
namespace_of terms nsid = lent_as terms.namespace nsid

-- ---- reserved bits

-- no bit of a dword
abbrev pub no_bits : ℕ
no_bits = 0

-- all bits of a dword
abbrev pub all_bits : ℕ
all_bits = 0xffff_ffff

-- the reserved bits of the dwords 10 to 15
abbrev pub reserved : ℕ → ℕ → ℕ → ℕ → ℕ → ℕ → Reserved
reserved a b c d e f = record { cdw10 = a; cdw11 = b; cdw12 = c; cdw13 = d; cdw14 = e; cdw15 = f }

-- the reserved bits of each command
abbrev pub reserved_of : Opcode → Reserved
reserved_of Flush = reserved all_bits all_bits all_bits all_bits all_bits all_bits
-- 25:24 and 19:16 of dword 12, and 15:8 of dword 13
reserved_of (OnBlocks Write) = reserved no_bits no_bits 0x030f_0000 0x0000_ff00 no_bits no_bits
-- 25:16 of dword 12, and 31:8 of dword 13
reserved_of (OnBlocks Read) = reserved no_bits no_bits 0x03ff_0000 0xffff_ff00 no_bits no_bits
-- 24:16 of dword 12, and dword 13
reserved_of (OnBlocks WriteZeroes) = reserved no_bits no_bits 0x01ff_0000 all_bits no_bits no_bits
-- 25:16 of dword 12, and dword 13
reserved_of (OnBlocks Compare) = reserved no_bits no_bits 0x03ff_0000 all_bits no_bits no_bits
reserved_of (OnBlocks Verify) = reserved no_bits no_bits 0x03ff_0000 all_bits no_bits no_bits
-- 31:8 of dword 10, 31:3 of dword 11, and the dwords 12 to 15
reserved_of DatasetManagement = reserved 0xffff_ff00 0xffff_fff8 all_bits all_bits all_bits all_bits

-- a dword has one of these bits
abbrev pub has_bits : ℕ → ℕ → Bool
has_bits dword mask = not (bit_and dword mask == 0)

-- an entry with this opcode sets a reserved bit
abbrev pub sets_reserved : Opcode → Sqe → Bool
sets_reserved opcode e =
    let r = reserved_of opcode in
    has_bits e.cdw10 r.cdw10
    || has_bits e.cdw11 r.cdw11
    || has_bits e.cdw12 r.cdw12
    || has_bits e.cdw13 r.cdw13
    || has_bits e.cdw14 r.cdw14
    || has_bits e.cdw15 r.cdw15

-- ---- the blocks

-- SLBA: the first block
abbrev pub first_block : Sqe → ℕ
first_block e = 2 ^ 32 * e.cdw11 + e.cdw10

-- NLB plus 1: how many blocks
abbrev pub block_count : Sqe → ℕ
block_count e = e.cdw12 % 2 ^ 16 + 1

-- NR plus 1: how many ranges
abbrev pub range_count : Sqe → ℕ
range_count e = e.cdw10 % 2 ^ 8 + 1

-- AD: the ranges are deallocated
abbrev pub deallocates : Sqe → Bool
deallocates e = e.cdw11 / 2 ^ 2 % 2 == 1

-- the host's data is read, or data is sent to it
abbrev pub has_data : Action → Bool
has_data Read = true
has_data Write = true
has_data Compare = true
has_data WriteZeroes = false
has_data Verify = false

-- a range of blocks lies within a number of blocks
abbrev pub is_within : ℕ → ℕ → ℕ → Bool
is_within blocks first count = nat_le (first + count) blocks

-- the bytes of a range of blocks
abbrev pub extent_of : ℕ → ℕ → ℕ → Extent
extent_of block_size first count = record { start = first * block_size; len = count * block_size }

-- the bytes of a range of blocks of a namespace whose data has this size, if they lie in it
abbrev pub extent_within : ℕ → ℕ → ℕ → ℕ → Result Extent Refusal
extent_within size block_size first count =
    if is_within (size / block_size) first count then Ok (extent_of block_size first count) else Err LbaOutOfRange

-- what an entry asks for with an action on blocks: first the limit is checked, then the range
unfoldable pub on_blocks : Action → Namespace → ℕ → ℕ → Sqe → Result Command Refusal
on_blocks action namespace limit size e =
    if has_data action && nat_lt limit (block_count e * namespace.block_size)
    then Err InvalidFieldInCommand
    else (extent_within size namespace.block_size (first_block e) (block_count e)
    >>= (λ extent. Ok (command.OnBlocks action extent)))

-- what an entry with a list of ranges asks for
unfoldable pub data_set : Namespace → ℕ → Sqe → Result Command Refusal
data_set namespace limit e =
    if nat_lt limit (16 * range_count e)
    then Err InvalidFieldInCommand
    else Ok (command.DatasetManagement (range_count e) namespace.block_size (deallocates e))

-- ---- all rules that the data pointer has no part in

-- what an entry with this opcode asks for of a namespace whose data has this size
abbrev pub asked_of : Opcode → Namespace → ℕ → ℕ → Sqe → Result Command Refusal
asked_of Flush namespace limit size e = Ok command.Flush
asked_of (OnBlocks action) namespace limit size e = on_blocks action namespace limit size e
asked_of DatasetManagement namespace limit size e = data_set namespace limit e

-- the same if it sets no reserved bit
abbrev pub unreserved : Opcode → Namespace → ℕ → ℕ → Sqe → Result Command Refusal
unreserved opcode namespace limit size e =
    if sets_reserved opcode e then Err InvalidFieldInCommand else asked_of opcode namespace limit size e

-- what an entry asks for, or the first rule that it breaks
unfoldable pub command_of : Terms → ℕ → Sqe → Result Command Refusal
command_of terms size e = do
  opcode ← opcode_of e
  namespace ← namespace_of terms e.nsid
  unreserved opcode namespace terms.limit size e

-- how many bytes a command transfers
abbrev pub length_of : Command → ℕ
length_of command.Flush = 0
length_of (command.OnBlocks action extent) = if has_data action then extent.len else 0
length_of (command.DatasetManagement ranges block_size deallocates) = 16 * ranges
