use Rattle.nv_script.proofs.Words.{◌++◌, ◌≡◌, AreListed, Batch, Goes, GoesAll, IsLinked, IsListed, List, Standing}
use Rattle.nv_script.proofs.Words.{Still, length, namespace_batches, next_cids_of}
use Rattle.nv_script.proofs.listing.list_namespaces.Given as goal

-- the first of the batches went
abbrev pub invariant-loop-rest : goal.invariant-loop-rest
invariant-loop-rest g l = record {
  linked : IsLinked (g.B.Bus.meaning l.bus) l.driver;
  pairs : length l.driver.pairs ≡ length l.initial.driver.pairs;
  left : (done : List Batch)
      × (namespace_batches l.ctrl l.nsids ≡ done ++ namespace_batches l.ctrl l.rest)
      × ((w : Standing)
      → IsListed w (g.B.Bus.meaning l.initial.bus).state (next_cids_of l.initial.driver) l.initial.listing
      → AreListed w done (g.B.Bus.meaning l.bus).state (next_cids_of l.driver) l.listing
      (GoesAll (Goes g.B.Bus.meaning g.B.Bus.was_written (Still g.B.Bus.was_read) g.B.Zeroing.was_zeroed
      g.B.Ringing.was_rung g.B.Bus.was_turned) l.initial.driver l.initial.bus l.driver l.bus));
}

abbrev pub decreases-loop-rest : goal.decreases-loop-rest
decreases-loop-rest g l = length l.rest
