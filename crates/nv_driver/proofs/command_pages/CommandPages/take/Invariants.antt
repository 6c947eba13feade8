use Rattle.nv_driver.proofs.Words.{◌≡◌, AreLowest, length, take}
use Rattle.nv_driver.proofs.PageSetLaws.{Taking}
use Rattle.nv_driver.proofs.command_pages.CommandPages.take.Given as goal

abbrev pub invariant-loop-at : goal.invariant-loop-at
invariant-loop-at l = record {
  taking : Taking l.fn.free l.free (take l.at l.self.numbers);
  lowest : AreLowest l.fn.free (take l.at l.self.numbers);
  seven : length l.self.numbers ≡ 259;
}
