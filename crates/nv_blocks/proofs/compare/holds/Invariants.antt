use Rattle.std.proofs.Common.{◌≡◌, ◌-◌, ◌≤◌, length, take}
use Rattle.nv_host.specs.Bytes.{bytes_at}
use Rattle.nv_blocks.proofs.compare.holds.Given as goal

-- the bytes so far are those of the memory
abbrev pub invariant-loop-done : goal.invariant-loop-done
invariant-loop-done g l = record {
  within : l.done ≤ length l.bytes;
  same : bytes_at (g.M.PagedMemory.bytes l.mem) l.address l.done ≡ take l.done l.bytes;
}

-- how many bytes are left
abbrev pub decreases-loop-done : goal.decreases-loop-done
decreases-loop-done g l = length l.initial.bytes - l.done
