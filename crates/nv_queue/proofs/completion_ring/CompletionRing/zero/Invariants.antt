use Rattle.std.proofs.Common.{◌≡◌, ◌*◌}
use Rattle.std.specs.Prelude.{replicate}
use Rattle.nv_host.specs.Bytes.{with_bytes}
use Rattle.nv_queue.proofs.completion_ring.CompletionRing.zero.Given as goal

abbrev pub invariant-loop-slot : goal.invariant-loop-slot
invariant-loop-slot g l = record {
  bytes : g.M.PagedMemory.bytes l.mem
      ≡ with_bytes (g.M.PagedMemory.bytes l.initial.mem) l.self.base (replicate (16 * l.slot) 0);
  page : g.M.PagedMemory.page_len l.mem ≡ g.M.PagedMemory.page_len l.initial.mem;
}
