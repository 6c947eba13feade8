use Rattle.std.proofs.Common.{◌≡◌, ◌*◌, length}
use Rattle.nv_prp.specs.Buffer.{KeepsOutsideList}
use Rattle.nv_prp.proofs.WriteLaws.{HasNamed, Lies}
use Rattle.nv_prp.proofs.buffer.write_list.Given as goal

-- the list holds the addresses of the first data pages, and only bytes of the list have changed
abbrev pub invariant-loop-page : goal.invariant-loop-page
invariant-loop-page g l =
    let size = g.M.PagedMemory.page_len l.initial.mem in
    record {
      lies : Lies size l.shape.room l.start (l.list.first * size) (l.list.second * size);
      named : HasNamed (g.M.PagedMemory.bytes l.mem) size l.shape.room l.start
          (l.list.second * size) l.pages l.count l.page;
      others : KeepsOutsideList l.shape.room l.start (l.list.second * size) l.count
          (g.M.PagedMemory.bytes l.initial.mem) (g.M.PagedMemory.bytes l.mem);
      len : length (g.M.PagedMemory.bytes l.mem) ≡ length (g.M.PagedMemory.bytes l.initial.mem);
      page : g.M.PagedMemory.page_len l.mem ≡ size;
    }
