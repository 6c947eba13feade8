use Rattle.std.proofs.Common.{rules, tests}
use Rattle.nv_file.proofs.Words.{FeatureRule, YieldsList-from_slice}
use Rattle.nv_file.proofs.Among.{any_is_among}
use Rattle.nv_file.proofs.feature_rule.has_fid.Goals as goal

pub returns : goal.returns
returns c = any_is_among (λ (x : FeatureRule). x.fid) c.args.fid c.args.rules.now _ _ c.any.result
    c.any.ensures.ran (YieldsList-from_slice c.args.rules.now cc) (λ x b q k. search (rules, tests))
