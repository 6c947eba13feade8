use Rattle.std.proofs.Common.{◌≡◌, ◌∙◌, ◌+◌, ap, arith, length, sym}
use Rattle.nv_prp.specs.Transfer.{span_of}
use Rattle.nv_prp.proofs.Words.{err_from_is_err_and, table, transfer_of, used_of}
use Rattle.nv_prp.proofs.PlaceLaws.{length-table}
use Rattle.nv_prp.proofs.ListLaws.{comes_first, fault_found, is_list}
use Rattle.nv_prp.proofs.PageLaws.{spans}
use Rattle.nv_prp.proofs.walker.walk_list.Goals as goal

pub loop-page-init : goal.loop-page-init
loop-page-init g c =
    let list =
    is_list _ (omega (arith, c.requires.pages)) c.in_ok-check.ensures.size
    (omega (arith, c.requires.pages)) c.in_ok-check.ensures.fault in
    record { list = list; comes = comes_first _ list; count = ap length c.requires.first; spans = c.requires.first }

pub returns-in_err-address : goal.returns-in_err-address
returns-in_err-address g c =
    let p = err_from_is_err_and c.from_residual-in_err-address.result c.from_residual-in_err-address.ensures.1 in
    let t = transfer_of (g.M.PagedMemory.page_len c.args.mem.now) (g.M.PagedMemory.bytes c.args.mem.now)
    c.args.pointer in
    rw (p.1, p.2)
    (fault_found t _ c.loop-page.page (used_of t (c.loop-page.page + 1)) c.loop-page.invariant.list
    (omega (arith, c.requires.pages)) (omega arith)
    (c.in_ok-at.ensures.turn.fault ∙ c.in_err-address.ensures.fault))

pub loop-page-preserved : goal.loop-page-preserved
loop-page-preserved g c =
    let t = transfer_of (g.M.PagedMemory.page_len c.args.mem.now) (g.M.PagedMemory.bytes c.args.mem.now)
    c.args.pointer in
    let now = c.loop-page.invariant in
    let turn = c.in_ok-at.ensures.turn in
    let spans : c.push.new.self ≡ table (c.loop-page.page + 1) (span_of t) =
    grind (arith, spans, now.list.size, turn.base, c.in_ok-address.ensures.value, c.requires.pages) in
    record {
      list = now.list;
      comes = record { later = omega arith; here = sym turn.next; none = turn.fault ∙ c.in_ok-address.ensures.fault };
      count = ap length spans ∙ length-table _ (span_of t);
      spans = spans;
    }
