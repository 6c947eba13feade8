use Rattle.nv_driver.proofs.Words.{◌≡◌, All, IsQuiet, map, pair_value, pairs_of}
use Rattle.nv_driver.proofs.queue_pair.new_pairs.Given as goal

abbrev pub invariant-loop-ctrl : goal.invariant-loop-ctrl
invariant-loop-ctrl l = record {
  quiet : All IsQuiet l.pairs.items;
  pairs : map pair_value l.pairs.items ≡ pairs_of l.geometry l.ctrl;
}
