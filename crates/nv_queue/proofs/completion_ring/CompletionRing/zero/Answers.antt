use Rattle.std.proofs.Common.{◌∙◌, ◌+◌, ◌*◌, ap, arith, refl}
use Rattle.nv_queue.proofs.Words.{length-replicate, length_with_bytes}
use Rattle.nv_queue.proofs.ZeroLaws.{zeroed_more, zeroed_none}
use Rattle.nv_queue.proofs.completion_ring.CompletionRing.zero.Goals as goal

pub loop-slot-init : goal.loop-slot-init
loop-slot-init g c = record {
  bytes = zeroed_none (g.M.PagedMemory.bytes c.args.mem.now) c.args.self.now.base;
  page = refl;
}

pub loop-slot-preserved : goal.loop-slot-preserved
loop-slot-preserved g c =
    let inv = c.loop-slot.invariant in
    let base = ap (λ r. r.base) c.self.view_is in
    let depth = ap (λ r. r.depth) c.self.view_is in
    record {
      bytes = zeroed_more (g.M.PagedMemory.bytes c.args.mem.now) _ _ c.args.self.now.base
          c.loop-slot.slot c.args.self.now.depth (c.args.self.now.base + 16 * c.loop-slot.slot) c.requires
          (omega arith) refl inv.bytes
          (grind (arith, length_with_bytes, length-replicate, c.store.ensures, c.from.ensures, inv.bytes, c.requires));
      page = c.store.ensures.page ∙ inv.page;
    }
