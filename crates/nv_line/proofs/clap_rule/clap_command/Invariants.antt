use Rattle.std.proofs.Common.{◌≡◌, take}
use Rattle.nv_line.specs.ClapRule.{bare_app, with_options}
use Rattle.clap.specs.Words.{app_of}
use Rattle.nv_line.proofs.clap_rule.clap_command.Given as goal

abbrev pub invariant-loop-option : goal.invariant-loop-option
invariant-loop-option l = app_of l.command ≡ with_options (bare_app l.fn.verb) (take l.option-index l.options)
