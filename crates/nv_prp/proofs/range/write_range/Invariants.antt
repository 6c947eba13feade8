use Rattle.std.proofs.Common.{◌≡◌, ◌+◌, ◌-◌, ◌≤◌, drop, length, take}
use Rattle.nv_host.specs.Bytes.{with_bytes}
use Rattle.nv_prp.proofs.range.write_range.Given as goal

-- the first bytes are written
abbrev pub invariant-loop-done : goal.invariant-loop-done
invariant-loop-done g l = record {
  at : l.at ≡ l.addr + l.done;
  within : l.done ≤ l.len;
  bytes : g.M.PagedMemory.bytes l.mem
      ≡ with_bytes (g.M.PagedMemory.bytes l.initial.mem) l.addr
      (take l.done (drop l.from (g.P.Payload.bytes l.payload)));
  len : length (g.M.PagedMemory.bytes l.mem) ≡ length (g.M.PagedMemory.bytes l.initial.mem);
  page : g.M.PagedMemory.page_len l.mem ≡ g.M.PagedMemory.page_len l.initial.mem;
}

abbrev pub decreases-loop-done : goal.decreases-loop-done
decreases-loop-done g l = l.len - l.done
