use Rattle.std.proofs.Common.{◌≡◌, ◌+◌, ◌++◌, drop, length, take}
use Rattle.nv_prp.specs.Place.{places, read_at}
use Rattle.nv_prp.proofs.spans.copy_in.Given as goal

-- the bytes that were read so far, followed by those of the remaining spans, are the bytes of all spans
abbrev pub invariant-loop-span : goal.invariant-loop-span
invariant-loop-span g l = record {
  left : l.at + length (places (drop l.span-index l.spans)) ≡ length l.out;
  read : take l.at l.out ++ read_at (g.M.PagedMemory.bytes l.mem) (places (drop l.span-index l.spans))
      ≡ read_at (g.M.PagedMemory.bytes l.mem) (places l.spans);
}
