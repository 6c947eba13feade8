use Rattle.std.proofs.Common.{◌∙◌, ℕ, ap, sym, subst, length, arith, refl}
use Rattle.nv_model.proofs.StepLaws.{effect_controllers, effect_keeps, refusal_fits, with_command_keeps}
use Rattle.nv_subsystem.proofs.Words.{booked, IsWellFormed, settled, untagged, with_command}
use Rattle.nv_subsystem.proofs.AnswerLaws.{accepted_told, refused_told}
use Rattle.nv_subsystem.proofs.TaggedLaws.{settled_untagged}
use Rattle.nv_subsystem.proofs.subsystem.Subsystem.settle.Goals as goal

pub apply-requires-clause-accepted : goal.apply-requires-clause-accepted
apply-requires-clause-accepted c = (accepted_told _ _ _ (sym c.requires.answered ∙ c.in-Ok.is)).0

pub apply-requires-clause-number : goal.apply-requires-clause-number
apply-requires-clause-number c = (accepted_told _ _ _ (sym c.requires.answered ∙ c.in-Ok.is)).1

pub count-requires : goal.count-requires
count-requires c = omega (
  arith,
  ap (λ t. length t.controllers) c.apply.ensures,
  effect_controllers c.args.self.now c.args.ctrl c.args.command.now,
)

pub returns-in-Ok-clause-state : goal.returns-in-Ok-clause-state
returns-in-Ok-clause-state c =
    c.count.ensures ∙ ap (λ t. with_command t c.args.ctrl) c.apply.ensures
    ∙ ap (settled c.args.self.now c.args.ctrl c.args.command.now c.args.origin)
    (sym (accepted_told _ _ _ (sym c.requires.answered ∙ c.in-Ok.is)).0)

pub returns-in-Err-clause-state : goal.returns-in-Err-clause-state
returns-in-Err-clause-state c =
    let refusing = λ (nsid : ℕ). with_command (booked c.args.self.now c.args.ctrl nsid c.args.origin c.in-Err.refusal)
    c.args.ctrl in
    c.refuse.ensures.state ∙ ap refusing c.nsid.ensures
    ∙ ap (settled c.args.self.now c.args.ctrl c.args.command.now c.args.origin)
    (sym (refused_told _ _ _ (sym c.requires.answered ∙ c.in-Err.is)))

pub returns-in-Ok-clause-without_tags : goal.returns-in-Ok-clause-without_tags
returns-in-Ok-clause-without_tags c =
    ap untagged (returns-in-Ok-clause-state c)
    ∙ settled_untagged c.args.self.now c.args.ctrl c.args.command.now c.args.origin _ refl

pub returns-in-Err-clause-without_tags : goal.returns-in-Err-clause-without_tags
returns-in-Err-clause-without_tags c =
    ap untagged (returns-in-Err-clause-state c)
    ∙ settled_untagged c.args.self.now c.args.ctrl c.args.command.now c.args.origin _ refl

pub returns-in-Ok-clause-well_formed : goal.returns-in-Ok-clause-well_formed
returns-in-Ok-clause-well_formed c w =
    subst IsWellFormed (sym (c.count.ensures ∙ ap (λ t. with_command t c.args.ctrl) c.apply.ensures))
    (with_command_keeps _ c.args.ctrl (effect_keeps c.args.self.now c.args.ctrl c.args.command.now
    (accepted_told _ _ _ (sym c.requires.answered ∙ c.in-Ok.is)).0 w))

pub returns-in-Err-clause-well_formed : goal.returns-in-Err-clause-well_formed
returns-in-Err-clause-well_formed c w =
    c.refuse.ensures.well_formed w (refusal_fits c.args.self.now c.args.ctrl c.args.command.now c.in-Err.refusal
    (refused_told _ _ _ (sym c.requires.answered ∙ c.in-Err.is)))
