use Rattle.std.proofs.Common.{◌∙◌, ap, sym, subst}
use Rattle.nv_model.proofs.StepLaws.{refused_keeps}
use Rattle.nv_subsystem.proofs.Words.{IsWellFormed, untagged, with_command}
use Rattle.nv_subsystem.proofs.TaggedLaws.{booked_untagged, untagged_back, untagged_keeps}
use Rattle.nv_subsystem.proofs.subsystem.Subsystem.refuse.Goals as goal

pub returns-clause-without_tags : goal.returns-clause-without_tags
returns-clause-without_tags c =
    ap untagged (c.count.ensures ∙ ap (λ s. with_command s c.args.ctrl) c.book.ensures.state)
    ∙ booked_untagged c.args.self.now c.args.ctrl c.args.nsid c.args.origin c.args.refusal

pub returns-clause-well_formed : goal.returns-clause-well_formed
returns-clause-well_formed c w fits =
    untagged_back _ (subst IsWellFormed (sym (returns-clause-without_tags c))
    (refused_keeps (untagged c.args.self.now) c.args.ctrl c.args.nsid c.args.origin.cid c.args.refusal
    c.ranges.nsid.fits c.book.ensures.range fits (untagged_keeps c.args.self.now w)))
