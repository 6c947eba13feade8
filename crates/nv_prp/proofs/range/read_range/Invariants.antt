use Rattle.std.proofs.Common.{◌≡◌, ◌+◌, ◌-◌, ◌≤◌, length, take}
use Rattle.nv_host.specs.Bytes.{bytes_at}
use Rattle.nv_prp.proofs.range.read_range.Given as goal

-- the first bytes are read
abbrev pub invariant-loop-done : goal.invariant-loop-done
invariant-loop-done g l = record {
  at : l.at ≡ l.addr + l.done;
  within : l.done ≤ length l.out;
  read : take l.done l.out ≡ bytes_at (g.M.PagedMemory.bytes l.mem) l.addr l.done;
}

abbrev pub decreases-loop-done : goal.decreases-loop-done
decreases-loop-done g l = length l.initial.out - l.done
