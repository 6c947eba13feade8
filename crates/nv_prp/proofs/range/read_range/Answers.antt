use Rattle.std.proofs.Common.{◌≡◌, ◌∙◌, ◌+◌, ◌-◌, ◌*◌, ap, arith, drop, refl, take}
use Rattle.nv_host.specs.Bytes.{bytes_at}
use Rattle.nv_prp.proofs.CopyLaws.{read_part, read_step}
use Rattle.nv_prp.proofs.range.read_range.Goals as goal

pub loop-done-init : goal.loop-done-init
unfolding bytes_at
loop-done-init g c = record { at = omega arith; within = omega arith; read = refl }

pub loop-done-preserved : goal.loop-done-preserved
loop-done-preserved g c =
    let bytes = g.M.PagedMemory.bytes c.args.mem.now in
    let size = g.M.PagedMemory.page_len c.args.mem.now in
    let now = c.loop-done in
    let part = c.first_part-part.result in
    let count : part.start + part.len - part.start ≡ part.len = omega arith in
    let copied : c.copy_from_slice.new.self ≡ bytes_at bytes (c.args.addr + now.done) part.len =
    c.copy_from_slice.ensures.after
    ∙ (λ j. take (count j) (drop part.start (c.page-page.ensures.value j)))
    ∙ read_part bytes (part.page * size) size part.start part.len c.first_part-part.ensures.within
    ∙ ap (λ a. bytes_at bytes a part.len) (omega arith) in
    record {
      at = omega arith;
      within = omega (arith, now.auto.out);
      read = read_step bytes now.out c.copy_from_slice.new.self c.args.addr now.done part.len _ now.invariant.read
          (omega arith) copied (omega (arith, now.auto.out)) (omega arith);
    }
