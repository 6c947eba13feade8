use Rattle.std.proofs.Common.{Bool, ◌∙◌, subst}
use Rattle.nv_file.specs.Check.{check}
use Rattle.nv_file.proofs.Words.{IsPassed, Unknown}
use Rattle.nv_file.proofs.Keys.{known_keys}
use Rattle.nv_file.proofs.section.Section.only.Goals as goal

pub returns : goal.returns
returns c =
    subst (λ (b : Bool). IsPassed (check b (Unknown c.args.self.now.name)) c.ensure.result)
    (c.has_only.ensures ∙ known_keys c.args.known.now c.args.self.now.table.now) c.ensure.ensures.exact
