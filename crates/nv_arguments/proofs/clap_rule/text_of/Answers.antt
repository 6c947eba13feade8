use Rattle.std.proofs.Common.{◌∙◌, ap}
use Rattle.clap.specs.Words.{first_of, found_of, rows_of}
use Rattle.clap.proofs.WalkLemmas.{first_value-rows}
use Rattle.nv_arguments.proofs.clap_rule.text_of.Goals as goal

pub returns : goal.returns
returns c =
    c.get_str.ensures ∙ first_value-rows (found_of c.args.matches.now) _
    ∙ ap (λ n. first_of n (rows_of (found_of c.args.matches.now))) c.name.ensures
