use Rattle.std.proofs.Common.{◌≡◌, ◌+◌, ◌++◌, drop, length, take}
use Rattle.nv_prp.specs.Place.{places, read_at}
use Rattle.nv_blocks.proofs.compare.are_held.Given as goal

-- the bytes of the spans so far, followed by those of the remaining ones, are the bytes of all spans
abbrev pub invariant-loop-span : goal.invariant-loop-span
invariant-loop-span g l = record {
  left : l.at + length (places (drop l.span-index l.spans)) ≡ length l.bytes;
  same : take l.at l.bytes ++ read_at (g.M.PagedMemory.bytes l.mem) (places (drop l.span-index l.spans))
      ≡ read_at (g.M.PagedMemory.bytes l.mem) (places l.spans);
}
