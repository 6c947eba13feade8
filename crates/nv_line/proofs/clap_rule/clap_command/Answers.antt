use Rattle.std.proofs.Common.{◌∙◌, ap₂, sym}
use Rattle.std.proofs.lemmas.List.Sums.{fold_more}
use Rattle.nv_line.specs.ClapRule.{bare_app, option_rule}
use Rattle.clap.specs.Words.{with_rule}
use Rattle.nv_line.proofs.clap_rule.clap_command.Goals as goal

pub loop-option-preserved : goal.loop-option-preserved
loop-option-preserved c =
    c.in_ok-command-2.ensures.shape c.option_arg.ensures.own
    ∙ ap₂ with_rule c.loop-option.invariant c.option_arg.ensures.rule
    ∙ sym (fold_more (λ a o. with_rule a (option_rule o)) (bare_app c.args.verb)
    c.options-options.result.now c.loop-option.option-index _ c.loop-option-test.true)
