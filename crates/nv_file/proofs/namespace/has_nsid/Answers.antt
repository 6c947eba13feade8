use Rattle.std.proofs.Common.{rules, tests}
use Rattle.nv_file.proofs.Words.{NamespaceEntry, YieldsList-from_slice}
use Rattle.nv_file.proofs.Among.{any_is_among}
use Rattle.nv_file.proofs.namespace.has_nsid.Goals as goal

pub returns : goal.returns
returns c = any_is_among (λ (x : NamespaceEntry). x.nsid) c.args.nsid c.args.namespaces.now _ _ c.any.result
    c.any.ensures.ran (YieldsList-from_slice c.args.namespaces.now cc) (λ x b q k. search (rules, tests))
