use Rattle.std.proofs.Common.{◌≡◌, length}
use Rattle.nv_prp.specs.Transfer.{span_of}
use Rattle.nv_prp.proofs.Words.{Comes, IsList, table, transfer_of}
use Rattle.nv_prp.proofs.walker.walk_list.Given as goal

-- the Qwords so far have no fault, and the spans are those of the data pages whose addresses they hold
abbrev pub invariant-loop-page : goal.invariant-loop-page
invariant-loop-page g l =
    let t = transfer_of (g.M.PagedMemory.page_len l.mem) (g.M.PagedMemory.bytes l.mem) l.pointer in
    record {
      list : IsList t;
      comes : Comes t l.page l.next;
      count : length l.spans ≡ l.page;
      spans : l.spans ≡ table l.page (span_of t);
    }
