use Rattle.std.proofs.Common.{subst}
use Rattle.nv_host.specs.Pages.{IsPageSize}
use Rattle.nv_host.proofs.memory.size_of_memory.Goals as goal

pub returns-clause-whole : goal.returns-clause-whole
returns-clause-whole g c = (c.pages.result, c.pages.ensures)

pub returns-clause-page : goal.returns-clause-page
returns-clause-page g c = subst (λ n. IsPageSize n) c.page_size.ensures.value c.page_size.ensures.one_of_five
