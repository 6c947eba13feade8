use Rattle.std.proofs.Common.{ap, length, rules, subst}
use Rattle.nv_blocks.specs.Zeroing.{zeroing}
use Rattle.nv_layout.specs.Sqe.{sqe_of_bytes}
use Rattle.nvme_controller.proofs.ZeroingLaws.{accepted, refused}
use Rattle.nvme_controller.proofs.zeroing.nvme_lent_zeroing.Goals as goal

pub returns-then-not-find-clause-zeroing : goal.returns-then-not-find-clause-zeroing
returns-then-not-find-clause-zeroing c pages =
    (c.terms-terms.result, c.terms-terms.ensures, refused _ _ (search rules))

pub returns-clause-zeroing : goal.returns-clause-zeroing
returns-clause-zeroing c pages = (
  c.terms-terms.result,
  c.terms-terms.ensures,
  accepted _ c.as_slice.result.now _ _ (search rules) (search rules) c.put_ranges.ensures.ranges,
)
