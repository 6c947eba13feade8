use Rattle.std.proofs.Common.{◌≡◌, ◌-◌, ◌≤◌, length, take}
use Rattle.nv_layout.specs.ErrorEntryBytes.{bytes_of_entries}
use Rattle.nv_layout.specs.Parts.{part}
use Rattle.nv_layout.proofs.error_entries.ErrorEntries.fill_within.Given as goal

-- the first bytes are written
abbrev pub invariant-loop-done : goal.invariant-loop-done
invariant-loop-done l = record {
  within : l.done ≤ length l.initial.out;
  written : take l.done l.out ≡ part (bytes_of_entries l.self) l.from l.done;
}

abbrev pub decreases-loop-done : goal.decreases-loop-done
decreases-loop-done l = length l.initial.out - l.done
