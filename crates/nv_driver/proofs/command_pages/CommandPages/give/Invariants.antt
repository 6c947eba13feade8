use Rattle.nv_driver.proofs.Words.{◌≡◌, take, with_pages}
use Rattle.nv_driver.proofs.command_pages.CommandPages.give.Given as goal

abbrev pub invariant-loop-at : goal.invariant-loop-at
invariant-loop-at l = l.free ≡ with_pages l.fn.free (take l.at l.pages)
