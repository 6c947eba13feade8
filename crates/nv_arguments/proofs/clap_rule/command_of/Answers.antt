use Rattle.std.proofs.Common.{◌∙◌, ap₂, sym, codes}
use Rattle.std.proofs.lemmas.List.Sums.{fold_more}
use Rattle.nv_arguments.specs.ClapRule.{option_rule}
use Rattle.clap.specs.Words.{new_app, with_rule}
use Rattle.nv_arguments.proofs.clap_rule.command_of.Goals as goal

pub loop-option-preserved : goal.loop-option-preserved
loop-option-preserved c =
    c.in_ok-command.ensures.shape c.option_arg.ensures.own
    ∙ ap₂ with_rule c.loop-option.invariant c.option_arg.ensures.rule
    ∙ sym (fold_more (λ a o. with_rule a (option_rule o)) (new_app (codes "nvme-script"))
    c.all-options.result.now c.loop-option.option-index _ c.loop-option-test.true)
