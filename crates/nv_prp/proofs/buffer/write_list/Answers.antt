use Rattle.std.proofs.Common.{◌<◌, ◌∙◌, ◌*◌, ◌+◌, ap, arith, get_or, refl, subst}
use Rattle.nv_prp.specs.Buffer.{KeepsOutsideList}
use Rattle.nv_prp.proofs.Words.{NamesPages}
use Rattle.nv_prp.proofs.WriteLaws.{chain_kept, chain_names, lies_at, naming_kept, one_named}
use Rattle.nv_prp.proofs.buffer.write_list.Goals as goal

pub loop-page-init : goal.loop-page-init
loop-page-init g c =
    let list = c.args.list.now in
    let room = c.qwords_in_page.result in
    let size = c.page_address.ensures.size in
    record {
      lies = lies_at _ _ list.first list.second list.offset _ room size c.requires.list c.requires.apart
          (λ i. c.page_address.ensures.value i + c.from.ensures i) c.qwords_in_page.ensures.value;
      named = λ j later below. absurd (omega arith);
      others = λ from n _. refl;
      len = refl;
      page = refl;
    }

pub loop-page-preserved : goal.loop-page-preserved
loop-page-preserved g c =
    let now = c.loop-page.invariant in
    let at = c.naming_qword.result in
    let stored = c.store_qword.ensures in
    let later : 0 < c.loop-page.page = omega arith in
    let behind = c.page_address-second.ensures.value in
    record {
      lies = now.lies;
      named = one_named _ _ _ _ _ _ _ c.args.pages.now c.args.count c.loop-page.page _ at now.lies c.requires.few later
          c.loop-page-test.true behind c.naming_qword.ensures now.named
          (stored.value ∙ c.page_address-address.ensures.value
          ∙ ap (λ p. get_or c.args.pages.now c.loop-page.page 0 * p) now.page) stored.others;
      others = naming_kept _ _ _ _ c.loop-page.page _ at _ _ _ later c.loop-page-test.true behind
          c.naming_qword.ensures now.others stored.others;
      len = stored.len ∙ now.len;
      page = stored.page ∙ now.page;
    }

-- ---- the address of the second page

pub returns-then-has_second_page-clause-names : goal.returns-then-has_second_page-clause-names
returns-then-has_second_page-clause-names g c =
    let size = g.M.PagedMemory.page_len c.args.mem.now in
    let now = c.loop-page.invariant in
    let start = c.page_address.result + c.from.result in
    let room = c.qwords_in_page.result in
    let more = c.if-has_second_page.ensures in
    subst (λ r. NamesPages (g.M.PagedMemory.bytes c.store_qword-then-has_second_page.new.mem) size r start
    (c.args.list.now.second * size) c.args.pages.now c.args.count) c.qwords_in_page.ensures.value
    (chain_names _ _ size room start _ _ c.args.pages.now c.args.count _ _ now.lies c.requires.few more
    (ap (λ n. start + 8 * n) c.from-then-has_second_page.ensures) (omega arith) now.named
    (c.store_qword-then-has_second_page.ensures.value
    ∙ c.page_address-second.ensures.value) c.store_qword-then-has_second_page.ensures.others)

pub returns-then-has_second_page-clause-others : goal.returns-then-has_second_page-clause-others
returns-then-has_second_page-clause-others g c =
    let bytes = g.M.PagedMemory.bytes in
    let size = g.M.PagedMemory.page_len c.args.mem.now in
    let now = c.loop-page.invariant in
    let start = c.page_address.result + c.from.result in
    subst (λ r. KeepsOutsideList r start (c.args.list.now.second * size) c.args.count (bytes c.args.mem.now)
    (bytes c.store_qword-then-has_second_page.new.mem)) c.qwords_in_page.ensures.value
    (chain_kept c.qwords_in_page.result start _ c.args.count _ _ _ _ now.lies.some c.if-has_second_page.ensures
    (ap (λ n. start + 8 * n) c.from-then-has_second_page.ensures) now.others
    c.store_qword-then-has_second_page.ensures.others)
