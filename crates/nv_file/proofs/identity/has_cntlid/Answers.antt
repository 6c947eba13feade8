use Rattle.std.proofs.Common.{rules, tests}
use Rattle.nv_file.proofs.Words.{ControllerEntry, YieldsList-from_slice}
use Rattle.nv_file.proofs.Among.{any_is_among}
use Rattle.nv_file.proofs.identity.has_cntlid.Goals as goal

pub returns : goal.returns
returns c =
    any_is_among (λ (x : ControllerEntry). x.identity.cntlid) c.args.cntlid c.args.controllers.now _ _ c.any.result
    c.any.ensures.ran (YieldsList-from_slice c.args.controllers.now cc) (λ x b q k. search (rules, tests))
