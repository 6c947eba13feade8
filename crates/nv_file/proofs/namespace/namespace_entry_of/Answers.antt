use Rattle.std.proofs.Common.{arith}
use Rattle.nv_file.proofs.Words.{common_steps}
use Rattle.nv_file.proofs.namespace.namespace_entry_of.Goals as goal

pub returns-clause-sound : goal.returns-clause-sound
returns-clause-sound c = record {
  nsid = c.in_ok-nsid.ensures.range;
  format = rw c.in_ok-in_use.ensures.at (record {
    capacity = rw c.block_size.ensures at c.in_ok-capacity.ensures.range;
    extended = grind (arith, common_steps);
  });
}
