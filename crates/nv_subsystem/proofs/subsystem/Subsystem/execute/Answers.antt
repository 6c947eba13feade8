use Rattle.std.proofs.Common.{Ok, ◌∙◌, ap}
use Rattle.nv_subsystem.proofs.Words.{answer_without_phases}
use Rattle.nv_subsystem.proofs.TaggedLaws.{answer_untagged}
use Rattle.nv_subsystem.proofs.subsystem.Subsystem.execute.Goals as goal

pub returns-in-Ok-clause-answer_without_tags : goal.returns-in-Ok-clause-answer_without_tags
returns-in-Ok-clause-answer_without_tags c =
    ap answer_without_phases (ap Ok (c.reply.ensures ∙ c.keep.ensures) ∙ c.in-Ok.ensures)
    ∙ answer_untagged c.args.self.now c.args.ctrl c.args.command.now

pub returns-in-Err-clause-answer_without_tags : goal.returns-in-Err-clause-answer_without_tags
returns-in-Err-clause-answer_without_tags c =
    ap answer_without_phases c.in-Err.ensures
    ∙ answer_untagged c.args.self.now c.args.ctrl c.args.command.now
