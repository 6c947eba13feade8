use Rattle.std.proofs.Common.{◌∙◌, ap, sym, arith, inr, map, None, refl, Some, Ok}
use Rattle.std.proofs.lemmas.Result.{err_from_is_err_and}
use Rattle.nv_line.specs.Word.{without_nvme, words_of}
use Rattle.nv_line.specs.declared.line.Line.TheVariants as line
use Rattle.nv_line.proofs.FaultOrder.{answer_at, handed_up, needs_memory, no_command, no_text, said_by}
use Rattle.nv_line.proofs.line.LineReader.read.Goals as goal

pub returns-in_default-clause-exact : goal.returns-in_default-clause-exact
returns-in_default-clause-exact c =
    inr (no_text c.args.line.now c.args.controllers (omega arith) (sym c.if-is_skipped_line.ensures)
    c.in_default.ensures.cases.0)

pub returns-in_default-clause-plain : goal.returns-in_default-clause-plain
returns-in_default-clause-plain c = λ none.
    sym (no_text c.args.line.now c.args.controllers (omega arith) (sym c.if-is_skipped_line.ensures)
    c.in_default.ensures.cases.0)

pub returns-in_default-verb_in-clause-exact : goal.returns-in_default-verb_in-clause-exact
returns-in_default-verb_in-clause-exact c =
    inr (no_command c.args.line.now c.in-Ok.text.now None (omega arith) (sym c.if-is_skipped_line.ensures)
    c.in-Ok.ensures.cases c.in_default-verb_in.ensures c.args.controllers refl)

pub returns-in_default-verb_in-clause-plain : goal.returns-in_default-verb_in-clause-plain
returns-in_default-verb_in-clause-plain c = λ none.
    sym (no_command c.args.line.now c.in-Ok.text.now None (omega arith) (sym c.if-is_skipped_line.ensures)
    c.in-Ok.ensures.cases c.in_default-verb_in.ensures c.args.controllers refl)

pub returns-in_err-text-clause-plain : goal.returns-in_err-text-clause-plain
returns-in_err-text-clause-plain c =
    needs_memory c.args.line.now c.in-Ok.text.now (Some c.in-Some.verb) (omega arith) (sym c.if-is_skipped_line.ensures)
    c.in-Ok.ensures.cases c.in-Some.ensures c.in-Some.verb _ refl

pub returns-in_err-split_words-clause-plain : goal.returns-in_err-split_words-clause-plain
returns-in_err-split_words-clause-plain c =
    needs_memory c.args.line.now c.in-Ok.text.now (Some c.in-Some.verb) (omega arith) (sym c.if-is_skipped_line.ensures)
    c.in-Ok.ensures.cases c.in-Some.ensures c.in-Some.verb _ refl

pub returns-in_err-request-clause-plain : goal.returns-in_err-request-clause-plain
returns-in_err-request-clause-plain c =
    needs_memory c.args.line.now c.in-Ok.text.now (Some c.in-Some.verb) (omega arith) (sym c.if-is_skipped_line.ensures)
    c.in-Ok.ensures.cases c.in-Some.ensures c.in-Some.verb _ refl

pub returns-clause-plain : goal.returns-clause-plain
returns-clause-plain c =
    needs_memory c.args.line.now c.in-Ok.text.now (Some c.in-Some.verb) (omega arith) (sym c.if-is_skipped_line.ensures)
    c.in-Ok.ensures.cases c.in-Some.ensures c.in-Some.verb _ refl

pub returns-in_err-request-clause-exact : goal.returns-in_err-request-clause-exact
returns-in_err-request-clause-exact c =
    let words = c.without_program-words.ensures
    ∙ ap without_nvme (ap (map (λ w. w.now)) c.into_bump_slice-words.ensures ∙ c.in_ok-split_words.ensures
    ∙ ap words_of (c.in_ok-text.ensures ∙ c.in-Ok.ensures.cases.0)) in
    let fault = err_from_is_err_and c.from_residual-in_err-request.result c.from_residual-in_err-request.ensures.1 in
    answer_at c.args.line.now c.in-Ok.text.now (Some c.in-Some.verb) (omega arith) (sym c.if-is_skipped_line.ensures)
    c.in-Ok.ensures.cases c.in-Some.ensures c.args.controllers c.in-Some.verb _ _ refl words
    (rw (fault.1, fault.2) (handed_up _ _ c.in_err-request.ensures.value))

pub returns-clause-exact : goal.returns-clause-exact
returns-clause-exact c =
    let words = c.without_program-words.ensures
    ∙ ap without_nvme (ap (map (λ w. w.now)) c.into_bump_slice-words.ensures ∙ c.in_ok-split_words.ensures
    ∙ ap words_of (c.in_ok-text.ensures ∙ c.in-Ok.ensures.cases.0)) in
    answer_at c.args.line.now c.in-Ok.text.now (Some c.in-Some.verb) (omega arith) (sym c.if-is_skipped_line.ensures)
    c.in-Ok.ensures.cases c.in-Some.ensures c.args.controllers c.in-Some.verb _
    (Ok (line.Request c.in_ok-request.request)) refl words (ap said_by c.in_ok-request.ensures.value)
