use Rattle.nv_driver.proofs.Words.{◌++◌, ◌∙◌, ap, arith, buffer_places, is_success, length, padded, read_at}
use Rattle.nv_driver.proofs.PaddingLaws.{came_as, padded_read}
use Rattle.nv_driver.proofs.passthrough.receive.Goals as goal

pub returns : goal.returns
returns g c =
    let mem = g.M.PagedMemory.bytes c.args.mem.now in
    let size = g.M.PagedMemory.page_len c.args.mem.now in
    let buffer = c.args.buffer.now in
    let n = length c.args.out.now in
    padded_read mem _ _ _ c.received_length-len.result c.min-count.result n _ _
    (omega (arith, c.min-count.ensures)) (omega (arith, c.min-count.ensures))
    (λ more. omega (arith, c.min-count.ensures))
    (omega (arith, c.split_at_mut-filled.ensures.back_len))
    (λ i. (c.copy_in.ensures ∙ ap (read_at mem) c.spans.ensures.places) i ++ c.fill.ensures.after (λ y e. e) i)
    ∙ ap (λ k. padded n (read_at mem (buffer_places size buffer.pages.now buffer.offset k)))
    c.received_length-len.ensures.value
    ∙ ap (padded n) (came_as c.args.transfer (is_success c.args.status) mem size buffer.pages.now buffer.offset)
