use Rattle.std.proofs.Common.{◌≡◌, drop}
use Rattle.nv_subsystem.proofs.Words.{fold, with_format}
use Rattle.nv_subsystem.proofs.subsystem.Subsystem.format_each.Given as goal

abbrev pub invariant-loop-nsid : goal.invariant-loop-nsid
invariant-loop-nsid l =
    record l.initial.self {
      namespaces = fold (with_format l.lbaf l.mset) l.self.namespaces (drop l.nsid-index l.nsids);
    }
    ≡ record l.initial.self {
      namespaces = fold (with_format l.lbaf l.mset) l.initial.self.namespaces l.nsids;
    }
    × (l.self ≡ record l.initial.self { namespaces = l.self.namespaces })
