use Rattle.std.proofs.Common.{◌≡◌, take, codes}
use Rattle.nv_arguments.specs.ClapRule.{with_options}
use Rattle.clap.specs.Words.{app_of, new_app}
use Rattle.nv_arguments.proofs.clap_rule.command_of.Given as goal

abbrev pub invariant-loop-option : goal.invariant-loop-option
invariant-loop-option l =
    app_of l.command ≡ with_options (new_app (codes "nvme-script")) (take l.option-index l.options)
