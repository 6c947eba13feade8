use Rattle.std.proofs.Common.{◌+◌, refl}
use Rattle.std.proofs.lemmas.Bool.{false≢true}
use Rattle.nvme_bench.proofs.ListLaws.{rest_of}
use Rattle.nvme_bench.proofs.TransferLaws.{one_again, one_more_apart}
use Rattle.nvme_bench.proofs.conditions.are_distinct.Goals as goal

pub returns-then-not-is_apart : goal.returns-then-not-is_apart
returns-then-not-is_apart c =
    let tested = rw (rest_of (c.loop-index.index + 1) c.args.pages.now) at c.if-not-is_apart.ensures in
    let never = one_again c.args.pages.now c.loop-index.index c.loop-index-test.true
    (λ apart. absurd (false≢true (tested.1 apart))) in
    (λ t. absurd (false≢true t), λ distinct. absurd (never distinct))

pub loop-index-preserved : goal.loop-index-preserved
loop-index-preserved c =
    let tested = rw (rest_of (c.loop-index.index + 1) c.args.pages.now) at c.if-not-is_apart.ensures in
    one_more_apart c.args.pages.now c.loop-index.index c.loop-index-test.true c.loop-index.invariant
    (tested.0 refl)
