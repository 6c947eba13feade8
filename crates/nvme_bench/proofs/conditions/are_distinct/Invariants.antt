use Rattle.nvme_bench.proofs.TransferLaws.{ApartTo}
use Rattle.nvme_bench.proofs.conditions.are_distinct.Given as goal

-- no page so far occurs again after it
abbrev pub invariant-loop-index : goal.invariant-loop-index
invariant-loop-index l = ApartTo l.pages l.index
