use Rattle.std.proofs.Common.{◌∙◌, inr, refl, sym, subst}
use Rattle.nv_layout.specs.UnlessMemory.{IsUnlessMemory}
use Rattle.nv_file.proofs.Words.{false≢true, is_utf8-from_IsUtf8, IsBlank, IsUtf8-from_is_utf8, Memory, table_view}
use Rattle.nv_file.proofs.TextLaws.{no_text, text_document}
use Rattle.nv_file.proofs.file.document.Goals as goal

pub returns-in-Ok-clause-exact : goal.returns-in-Ok-clause-exact
returns-in-Ok-clause-exact c =
    subst (IsUnlessMemory Memory table_view c.parsed.result)
    (text_document c.args.bytes.now c.in-Ok.text.now c.in-Ok.ensures.cases.0 c.in-Ok.ensures.cases.1)
    c.parsed.ensures.exact

pub returns-in-Ok-clause-text : goal.returns-in-Ok-clause-text
returns-in-Ok-clause-text c = λ bad.
    absurd (false≢true (sym bad ∙ is_utf8-from_IsUtf8 c.args.bytes.now c.in-Ok.ensures.cases.1))

pub returns-in-Ok-clause-blank : goal.returns-in-Ok-clause-blank
returns-in-Ok-clause-blank c = λ blank.
    c.parsed.ensures.blank (subst IsBlank (sym c.in-Ok.ensures.cases.0) blank.1)

pub returns-in-Err-clause-exact : goal.returns-in-Err-clause-exact
returns-in-Err-clause-exact c = inr (no_text c.args.bytes.now _ refl c.in-Err.ensures.cases.0)

pub returns-in-Err-clause-blank : goal.returns-in-Err-clause-blank
returns-in-Err-clause-blank c = λ blank.
    absurd (c.in-Err.ensures.cases.0 (IsUtf8-from_is_utf8 c.args.bytes.now blank.0))
