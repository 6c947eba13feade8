use Rattle.std.proofs.Common.{◌≡◌, ◌∙◌, None, ap, inr, sym}
use Rattle.toml.specs.Parse.{parse_document}
use Rattle.nv_file.proofs.Words.{false≢true, NotToml, ok_or}
use Rattle.nv_file.proofs.TextLaws.{blank_document}
use Rattle.nv_file.proofs.file.parsed.Goals as goal

pub returns-in-Ok-clause-blank : goal.returns-in-Ok-clause-blank
returns-in-Ok-clause-blank c = λ blank. cc (sym (blank_document c.args.text.now blank) ∙ c.in-Ok.ensures.ok)

pub returns-then-is_memory-clause-blank : goal.returns-then-is_memory-clause-blank
returns-then-is_memory-clause-blank c = λ blank.
    absurd (c.in-Err.ensures.memory (c.is_memory.ensures.0 c.if-is_memory.true) blank)

pub returns-else-is_memory-clause-exact : goal.returns-else-is_memory-clause-exact
returns-else-is_memory-clause-exact c =
    let none : parse_document c.args.text.now ≡ None = c.in-Err.ensures.refused
    (λ is. absurd (false≢true (sym c.if-is_memory.false ∙ c.is_memory.ensures.1 is))) in
    inr (ap (λ t. ok_or t NotToml) none)

pub returns-else-is_memory-clause-blank : goal.returns-else-is_memory-clause-blank
returns-else-is_memory-clause-blank c = λ blank.
    let none : parse_document c.args.text.now ≡ None = c.in-Err.ensures.refused
    (λ is. absurd (false≢true (sym c.if-is_memory.false ∙ c.is_memory.ensures.1 is))) in
    absurd (cc (sym (blank_document c.args.text.now blank) ∙ none))
