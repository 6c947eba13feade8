use Rattle.std.proofs.Common.{◌*◌, arith, inl, inr, sym}
use Rattle.nv_host.proofs.BytesLaws.{bytes_at-with_after, bytes_at-with_before, bytes_at-with_same}
use Rattle.nv_host.proofs.PageLaws.{pages_apart}
use Rattle.nv_host.proofs.page_mut_then_page.Goals as goal

pub returns-clause-page : goal.returns-clause-page
returns-clause-page c bytes size n page has whole =
    bytes_at-with_same bytes (n * size) size page (omega arith) (sym whole)

pub returns-clause-others : goal.returns-clause-others
returns-clause-others c bytes size n page other has whole differ =
    elim (pages_apart size other n differ) [
      | inl before ↦ bytes_at-with_before bytes (n * size) page (other * size) size before (omega arith)
      | inr after ↦ bytes_at-with_after bytes (n * size) page (other * size) size (omega arith) (omega arith)
    ]
