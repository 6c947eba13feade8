use Rattle.std.proofs.Common.{◌≡◌, ◌∙◌, ◌+◌, ◌*◌, ◌-◌, ◌++◌, ap, arith, drop, length, length-append, length-drop}
use Rattle.std.proofs.Common.{length-take, take}
use Rattle.nv_host.specs.Bytes.{with_bytes}
use Rattle.nv_host.specs.FlatMemory.{only_page}
use Rattle.nv_host.proofs.BytesLaws.{with_part}
use Rattle.nv_tests.proofs.own_memory.OwnMemoryPagedMemory.fill.Goals as goal

pub returns-clause-value : goal.returns-clause-value
returns-clause-value g c =
    let mem = c.args.self.now.memory in
    let size = mem.page_size in
    let start = c.args.start in
    let count = start + c.args.len - start in
    let page = c.page_mut-page.result.now in
    let part = c.fill.new.out in
    let room : length (take count (drop start page)) ≡ c.args.len = simp (length-take, length-drop) (omega arith) in
    let is = c.fill.ensures ∙ ap (λ k. take k (drop c.args.from (g.P.Payload.bytes c.args.payload.now))) room in
    let len : length part ≡ count = ap length is ∙ simp (length-take, length-drop) (omega arith) in
    only_page mem c.args.n (take start page ++ (part ++ drop count (drop start page)))
    c.requires.page
    (simp (length-append, length-take, length-drop) (omega arith))
    ∙ with_part mem.bytes (c.args.n * size) size start count page part (omega arith) (omega arith) len
    c.page_mut-page.ensures.value
    ∙ ap (λ l. with_bytes mem.bytes (c.args.n * size + start) l) is
