use Rattle.std.proofs.Common.{◌≡◌, ◌+◌, drop, length}
use Rattle.nv_prp.specs.Place.{places, written_at}
use Rattle.nv_prp.proofs.spans.write_out.Given as goal

-- writing the remaining bytes to the remaining spans gives the same as writing all bytes to all spans
abbrev pub invariant-loop-span : goal.invariant-loop-span
invariant-loop-span g l = record {
  left : l.at + length (places (drop l.span-index l.spans)) ≡ length (g.P.Payload.bytes l.payload);
  bytes : written_at (g.M.PagedMemory.bytes l.mem) (places (drop l.span-index l.spans))
      (drop l.at (g.P.Payload.bytes l.payload))
      ≡ written_at (g.M.PagedMemory.bytes l.initial.mem) (places l.spans) (g.P.Payload.bytes l.payload);
  len : length (g.M.PagedMemory.bytes l.mem) ≡ length (g.M.PagedMemory.bytes l.initial.mem);
  page : g.M.PagedMemory.page_len l.mem ≡ g.M.PagedMemory.page_len l.initial.mem;
}
