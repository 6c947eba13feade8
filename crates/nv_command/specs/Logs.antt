-- Get Log Page: opcode 02h. CDW10 7:0 is the identifier of the log. The number of dwords, less one,
-- is in CDW10 31:16, with its upper half in CDW11 15:0; the offset of the first byte is CDW12, with
-- its upper half in CDW13.
use Rattle.std.specs.Prelude.{◌≡◌, ℕ, ◌+◌, ◌*◌, ◌/◌, ◌^◌, ◌<◌, ◌≤◌, List, length, map}
use Rattle.std.specs.Simd.{first_chunks}
use Rattle.nv_layout.specs.ErrorEntryBytes.{error_entry_of_bytes, without_phase}
use Rattle.nv_layout.specs.Bits.{at_bits, bits}
use Rattle.nv_layout.specs.Smart.{smart_of_bytes}
use Rattle.nv_layout.specs.declared.error_entry.ErrorEntry.{ErrorEntry}
use Rattle.nv_layout.specs.declared.sqe.Sqe.{Sqe}
use Rattle.nv_command.specs.declared.command.Command.{Command}
use Rattle.nv_command.specs.declared.command.Command.TheVariants.{GetLog}
use Rattle.nv_command.specs.declared.logs.LogQuery.{LogQuery}
use Rattle.nv_command.specs.declared.reply.Reply.{Reply}
use Rattle.nv_command.specs.declared.reply.Reply.TheVariants as reply
use Rattle.nv_command.specs.LogPage.{log_asked}
use Rattle.nv_command.specs.declared.log_page.LogPage.{LogPage}
use Rattle.nv_command.specs.declared.log_page.LogPage.TheVariants.{ErrorInformation, Health}

-- the parameters of a Get Log Page fit their bits, and it asks for at least one dword
pub record GetLogFits (q : LogQuery) : Type 0 where
  pub lid : q.lid < 2 ^ 8
  pub nsid : q.nsid < 2 ^ 32
  pub offset : q.offset < 2 ^ 64
  pub some : 0 < q.dwords
  pub dwords : q.dwords ≤ 2 ^ 32

-- how many dwords an entry asks for; the number in the entry is one less
abbrev pub dwords_asked : Sqe → ℕ
dwords_asked e = bits 16 16 e.cdw10 + at_bits 16 16 e.cdw11 + 1

-- every entry is a valid request for a log; its other bits are ignored
abbrev pub get_log_command : Sqe → Command
get_log_command e = GetLog (record {
  lid = bits 0 8 e.cdw10;
  nsid = e.nsid;
  offset = e.cdw12 + e.cdw13 * 2 ^ 32;
  dwords = dwords_asked e;
})

-- an entry as it is received: its phase tag says nothing about the error and is left out
abbrev pub entry_received : List ℕ → ErrorEntry
entry_received bytes = without_phase (error_entry_of_bytes bytes)

-- the entries in these bytes, 64 bytes each
abbrev pub entries_in : List ℕ → List ErrorEntry
entries_in bytes = map entry_received (first_chunks 64 (length bytes / 64) bytes)

-- the error log in these bytes
abbrev pub errors_in : List ℕ → Reply
errors_in bytes = reply.Errors (entries_in bytes)

-- the health log in these bytes
abbrev pub smart_in : List ℕ → Reply
smart_in bytes = reply.Smart (smart_of_bytes bytes)

-- ---- what the host receives of a log

-- entries that differ only in the phase tag are considered equal
abbrev pub without_phases : Reply → Reply
without_phases (reply.Errors es) = reply.Errors (map without_phase es)
without_phases r = r

-- from 1 to 256 whole entries
pub record AreEntries (dwords : ℕ) : Type 0 where
  pub whole : 16 * (dwords / 16) ≡ dwords
  pub some : 0 < dwords / 16
  pub few : dwords / 16 ≤ 256

-- a log from its beginning: whole entries, or the entire health log
abbrev pub IsWhole : LogPage → ℕ → ℕ → Type 0
IsWhole ErrorInformation offset dwords = (offset ≡ 0) × AreEntries dwords
IsWhole Health offset dwords = (offset ≡ 0) × (4 * dwords ≡ 512)

-- a command whose reply can be read from its data
abbrev pub IsSendable : Command → Type 0
IsSendable (GetLog q) = IsWhole (log_asked q.lid) q.offset q.dwords
IsSendable k = Unit {0}
