use Rattle.std.proofs.Common.{◌≡◌, ◌∙◌, ℕ, ◌+◌, ◌*◌, ◌<◌, List, arith, get_or, subst, sym, refl}
use Rattle.nv_prp.specs.Buffer.{IsBuffer, StaysFor}
use Rattle.nv_prp.proofs.Words.{data_pages, IsPageSize, NamesPages, page_size_bounds, room, transfer}
use Rattle.nv_prp.proofs.BufferLaws.{buffer_kept, list_place_kept}
use Rattle.nv_prp.proofs.BuiltLaws.{Begins, keeps_itself, many_pages, names_kept, few_pages, pages_enough}
use Rattle.nv_prp.proofs.PageLaws.{at_least_one}
use Rattle.nv_prp.proofs.WriteLaws.{lies_at, pages_kept}
use Rattle.nv_prp.proofs.buffer.build.Goals as goal

-- PRP1 is the address of the buffer's first byte
begins : {size start len first rest : ℕ} {bytes pages : List ℕ} (prp2 : ℕ) → IsPageSize size
    → IsBuffer bytes size pages start len
    → first ≡ get_or pages 0 0 * size → rest ≡ start → Begins (transfer size bytes (first + rest) prp2 len) pages start
begins prp2 size buffer first rest = record { size = size; buffer = buffer; prp1 = λ i. first i + rest i }

pub bounds-buffer-1 : goal.bounds-buffer-1
bounds-buffer-1 g c =
    let long =
    pages_enough _ _ _
    (begins 0 c.page_address.ensures.size c.requires.buffer c.page_address.ensures.value c.from.ensures) in
    omega (arith, long, c.data_pages.ensures.value, c.in-2.is)

pub write_list-requires-clause-enough : goal.write_list-requires-clause-enough
write_list-requires-clause-enough g c =
    let long =
    pages_enough _ _ _
    (begins 0 c.page_address.ensures.size c.requires.buffer c.page_address.ensures.value c.from.ensures) in
    omega (arith, long, c.data_pages.ensures.value)

pub write_list-requires-clause-apart : goal.write_list-requires-clause-apart
write_list-requires-clause-apart g c = c.requires.distinct 0 1 0 (omega arith) (omega arith)

-- ---- one data page, two, and more

pub returns-in-1-clause-stays : goal.returns-in-1-clause-stays
returns-in-1-clause-stays g c later keeps =
    few_pages _ _ _
    (begins 0 c.page_address.ensures.size
    (buffer_kept _ later _ _ _ _ keeps.len c.requires.buffer) c.page_address.ensures.value c.from.ensures)
    (omega (arith, c.data_pages.ensures.value, c.in-1.is)) (omega (arith, c.data_pages.ensures.value, c.in-1.is))
    (λ two. absurd (omega (arith, c.data_pages.ensures.value, c.in-1.is)))

pub returns-in-1-clause-legal : goal.returns-in-1-clause-legal
returns-in-1-clause-legal g c = (returns-in-1-clause-stays g c _ (keeps_itself _ _ _)).legal

pub returns-in-1-clause-places : goal.returns-in-1-clause-places
returns-in-1-clause-places g c = (returns-in-1-clause-stays g c _ (keeps_itself _ _ _)).places

pub returns-in-2-clause-stays : goal.returns-in-2-clause-stays
returns-in-2-clause-stays g c later keeps =
    few_pages _ _ _
    (begins _ c.page_address.ensures.size
    (buffer_kept _ later _ _ _ _ keeps.len c.requires.buffer) c.page_address.ensures.value c.from.ensures)
    (omega (arith, c.data_pages.ensures.value, c.in-2.is)) (omega (arith, c.data_pages.ensures.value, c.in-2.is))
    (λ _. c.page_address-in-2.ensures.value)

pub returns-in-2-clause-legal : goal.returns-in-2-clause-legal
returns-in-2-clause-legal g c = (returns-in-2-clause-stays g c _ (keeps_itself _ _ _)).legal

pub returns-in-2-clause-places : goal.returns-in-2-clause-places
returns-in-2-clause-places g c = (returns-in-2-clause-stays g c _ (keeps_itself _ _ _)).places

pub returns-in_default-clause-stays : goal.returns-in_default-clause-stays
returns-in_default-clause-stays g c =
    let buffer = c.args.buffer.now in
    let list = c.args.list.now in
    let size = g.M.PagedMemory.page_len c.args.mem.now in
    let after = g.M.PagedMemory.bytes c.write_list.new.mem in
    let t = transfer size after (c.page_address.result + c.from.result) c.write_list.result c.args.len in
    let is = c.page_address.ensures.size in
    let many : 2 < data_pages t =
    omega (
      arith,
      c.data_pages.ensures.value,
      at_least_one t (omega (arith, page_size_bounds size is)) c.requires.some,
    ) in
    let lies =
    lies_at _ size list.first list.second list.offset t.prp2 (room t) is c.requires.list
    (c.requires.distinct 0 1 0 (omega arith) (omega arith)) c.write_list.ensures.value refl in
    let names =
    subst (λ n. NamesPages after size (room t) t.prp2
    (list.second * size) buffer.pages.now n) c.data_pages.ensures.value c.write_list.ensures.names in
    let stays : StaysFor t buffer.pages.now buffer.offset list.first list.second = λ later keeps.
    let same = keeps.len ∙ c.write_list.ensures.len in
    many_pages (transfer size later t.prp1 t.prp2 t.len) buffer.pages.now buffer.offset
    (begins t.prp2 is (buffer_kept _ later _ _ _ _ same c.requires.buffer) c.page_address.ensures.value c.from.ensures)
    list.first list.second list.offset many c.write_list.ensures.value
    (list_place_kept _ later size list.first list.second list.offset same c.requires.list)
    (names_kept t buffer.pages.now list.first list.second later many
    (omega (arith, c.data_pages.ensures)) lies keeps names) in
    subst (λ p. StaysFor (transfer p after t.prp1 t.prp2 t.len) buffer.pages.now buffer.offset list.first list.second)
    (sym c.write_list.ensures.page) stays

pub returns-in_default-clause-legal : goal.returns-in_default-clause-legal
returns-in_default-clause-legal g c = (returns-in_default-clause-stays g c _ (keeps_itself _ _ _)).legal

pub returns-in_default-clause-places : goal.returns-in_default-clause-places
returns-in_default-clause-places g c = (returns-in_default-clause-stays g c _ (keeps_itself _ _ _)).places

pub returns-in_default-clause-others : goal.returns-in_default-clause-others
returns-in_default-clause-others g c =
    let list = c.args.list.now in
    let wrote = c.write_list.ensures in
    pages_kept _ _ c.write_list.result list.first list.second _ _ _
    (lies_at _ _ list.first list.second list.offset _ _ c.page_address.ensures.size c.requires.list
    (c.requires.distinct 0 1 0 (omega arith) (omega arith)) wrote.value refl)
    (omega (arith, c.data_pages.ensures)) wrote.others
