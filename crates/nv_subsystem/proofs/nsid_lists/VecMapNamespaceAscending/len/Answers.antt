use Rattle.std.proofs.Common.{◌∙◌}
use Rattle.nv_subsystem.proofs.NumbersAbove.{length-keys}
use Rattle.nv_subsystem.proofs.nsid_lists.VecMapNamespaceAscending.len.Goals as goal

pub returns-clause-count : goal.returns-clause-count
returns-clause-count c = c.len.ensures.value ∙ length-keys _
