-- Dwords that make whole entries of an error log.
use Rattle.std.proofs.Common.{◌≡◌, ℕ, ◌%◌, ◌<◌, ◌≤◌, arith}
use Rattle.nv_command.specs.Logs.{AreEntries}

-- at least one dword, a multiple of 16 and at most 4,096, makes whole entries
pub entries_from : (dwords : ℕ) → 0 < dwords → dwords % 16 ≡ 0 → dwords ≤ 4096 → AreEntries dwords
entries_from dwords one whole few = record {
  whole = omega (arith, whole);
  some = omega (arith, one, whole);
  few = omega (arith, few);
}

-- dwords that make whole entries are a multiple of 16 and at most 4,096
pub entries_to : (dwords : ℕ) → AreEntries dwords → (dwords % 16 ≡ 0) × (dwords ≤ 4096)
entries_to dwords h = (omega (arith, h.whole), omega (arith, h.whole, h.few))
