use Rattle.std.proofs.Common.{◌∙◌, refl, subst}
use Rattle.nv_prp.specs.Place.{AreDistinct}
use Rattle.nvme_bench.proofs.transfers.build_entries.Goals as goal

pub build-requires-clause-distinct : goal.build-requires-clause-distinct
build-requires-clause-distinct c =
    subst AreDistinct (c.as_slice.ensures.value ∙ c.in_ok-pages.ensures) (c.if-not-are_distinct.ensures.0 refl)
