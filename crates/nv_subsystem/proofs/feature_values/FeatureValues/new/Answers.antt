use Rattle.std.proofs.Common.{ap, refl}
use Rattle.nv_subsystem.proofs.Words.{get-empty, nat_cmp}
use Rattle.nv_subsystem.proofs.ValueTableLaws.{in_values, no_values, over-empty}
use Rattle.nv_subsystem.proofs.feature_values.FeatureValues.new.Goals as goal

pub invariant_of-result : goal.invariant_of-result
invariant_of-result c = rw (c.in_ok-by_nsid.ensures, c.in_ok-by_feature.ensures) (record {
  nsids = over-empty 1 c.args.nn 1 c.args.nn refl refl;
  rows = over-empty 0 384 0 384 refl refl;
  apart = get-empty nat_cmp 160;
})

pub returns : goal.returns
returns c = rw (c.in_ok-by_nsid.ensures, c.in_ok-by_feature.ensures) (ap (in_values c.args.nn) no_values)
