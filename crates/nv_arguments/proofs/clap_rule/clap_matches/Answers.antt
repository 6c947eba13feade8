use Rattle.std.proofs.Common.{◌∙◌, inr}
use Rattle.nv_arguments.proofs.ClapRules.{matches_as, refused, is_simple_as, taken}
use Rattle.nv_arguments.proofs.clap_rule.clap_matches.Goals as goal

pub returns-in-Ok : goal.returns-in-Ok
returns-in-Ok c =
    let e = c.in_ok-command.ensures in
    let s = c.in-Ok.ensures in
    taken _ _ _ e (s.kinds (is_simple_as _ e)) (s.matches (matches_as _ e)).0

pub returns : goal.returns
returns c =
    let e = c.in_ok-command.ensures in
    let k = c.kind.ensures in
    inr (refused _ _ _ e (c.in-Err.ensures.kinds (is_simple_as _ e)) (λ o. c.in_default.not-OutOfMemory (k ∙ o)))
