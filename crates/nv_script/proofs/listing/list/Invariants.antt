use Rattle.nv_script.proofs.Words.{◌≡◌, Goes, GoesAll, IsLinked, Still, length, next_cids_of}
use Rattle.nv_script.proofs.ListedLaws.{AreAsked}
use Rattle.nv_script.proofs.listing.list.Given as goal

abbrev pub invariant-loop-ctrl : goal.invariant-loop-ctrl
invariant-loop-ctrl g l = record {
  linked : IsLinked (g.B.Bus.meaning l.bus) l.driver;
  pairs : length l.driver.pairs ≡ length l.initial.driver.pairs;
  left : AreAsked (g.B.Bus.meaning l.initial.bus).state (next_cids_of l.initial.driver) l.ctrl l.ctrl-end
      (g.B.Bus.meaning l.bus).state (next_cids_of l.driver) l.listing
      (GoesAll (Goes g.B.Bus.meaning g.B.Bus.was_written (Still g.B.Bus.was_read) g.B.Zeroing.was_zeroed
      g.B.Ringing.was_rung g.B.Bus.was_turned) l.initial.driver l.initial.bus l.driver l.bus);
}
