use Rattle.std.proofs.Common.{◌≡◌, ◌∙◌, ◌+◌, ◌*◌, ◌≤◌, ap, arith, drop, length, length-drop, length-take, refl, sym}
use Rattle.std.proofs.Common.{take}
use Rattle.std.proofs.lemmas.List.{drop-drop}
use Rattle.nv_host.specs.Bytes.{with_bytes}
use Rattle.nv_host.proofs.BytesLaws.{length-with_bytes}
use Rattle.nv_prp.proofs.CopyLaws.{none_written, write_step}
use Rattle.nv_prp.proofs.range.write_range.Goals as goal

pub loop-done-init : goal.loop-done-init
loop-done-init g c =
    record { at = omega arith; within = omega arith; bytes = sym (none_written _ c.args.addr); len = refl; page = refl }

pub loop-done-preserved : goal.loop-done-preserved
loop-done-preserved g c =
    let first = g.M.PagedMemory.bytes c.args.mem.now in
    let now = c.loop-done in
    let source = g.P.Payload.bytes c.args.payload.now in
    let xs = drop c.args.from source in
    let part = c.first_part-part.result in
    let place : part.page * g.M.PagedMemory.page_len now.mem + part.start ≡ c.args.addr + now.done =
    c.first_part-part.ensures.place ∙ now.invariant.at in
    let written = c.fill.ensures.value
    ∙ (λ j. with_bytes (g.M.PagedMemory.bytes now.mem) (place j)
    (take part.len (sym (drop-drop now.done c.args.from source) j))) in
    let most : length (take part.len (drop now.done xs)) ≤ part.len =
    omega (arith, length-take part.len (drop now.done xs)) in
    record {
      at = omega arith;
      within = omega arith;
      bytes = written
          ∙ write_step first (g.M.PagedMemory.bytes now.mem) xs c.args.addr now.done part.len now.invariant.bytes
          (omega (arith, length-drop c.args.from source)) (omega arith);
      len = ap length written
          ∙ length-with_bytes (g.M.PagedMemory.bytes now.mem) (c.args.addr + now.done) _ (omega (arith, most))
          ∙ now.invariant.len;
      page = c.fill.ensures.page ∙ now.invariant.page;
    }
