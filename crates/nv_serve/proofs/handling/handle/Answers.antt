use Rattle.std.proofs.Common.{◌≡◌, ◌∙◌, ap, arith, length, refl, sym}
use Rattle.std.proofs.lemmas.List.{length-map}
use Rattle.nv_driver.specs.inner.Linked.{next_cids_of}
use Rattle.nv_serve.specs.Header.{wanted_length}
use Rattle.nv_serve.specs.Serving.{returned}
use Rattle.nv_serve.specs.declared.answer.AnswerHeader.{AnswerHeader}
use Rattle.nv_serve.proofs.ServingLaws.{bare_is, handled_by, not_handled, reset_on}
use Rattle.nv_serve.proofs.handling.handle.Goals as goal

pub returns-then-from-controllers-clause-handled : goal.returns-then-from-controllers-clause-handled
returns-then-from-controllers-clause-handled g c =
    not_handled _ _ _ _ _ _ (omega arith) (bare_is c.args.received.now c.bare.ensures)

pub returns-in-Entry-clause-handled : goal.returns-in-Entry-clause-handled
returns-in-Entry-clause-handled g c =
    let p = c.pass.ensures.passed in
    handled_by _ _ _ _ _ _ _ _ (omega arith) c.in-Entry.is (p.command_result, p.came, p.header) p.reached p.steps

pub returns-in_ok-reset-in-Reset-clause-handled : goal.returns-in_ok-reset-in-Reset-clause-handled
returns-in_ok-reset-in-Reset-clause-handled g c =
    let e = c.reset.ensures in
    handled_by _ _ _ _ _ _ _ _ (omega arith) c.in-Reset.is (bare_is c.args.received.now c.bare-in-Reset.ensures)
    (reset_on (g.B.Bus.meaning c.args.bus.now) (g.B.Bus.meaning c.reset.new.bus) c.args.driver.now
    c.args.header.now.controller e.state e.driver)
    (e.driver, e.steps.0, e.steps.1, e.steps.2)

pub returns-in-List-clause-handled : goal.returns-in-List-clause-handled
returns-in-List-clause-handled g c =
    let controllers = c.controllers-controllers in
    let many : controllers.result ≡ length (next_cids_of c.args.driver.now) =
    controllers.ensures ∙ sym (length-map c.args.driver.now.pairs _) in
    let p = rw c.list_entry.ensures.value at c.pass-answer.ensures.passed in
    handled_by _ _ _ _ _ _ _ _ (omega arith) c.in-List.is (
      p.command_result,
      p.came,
      ap (λ (h : AnswerHeader). record h { dword0 = controllers.result }) p.header
          ∙ ap (λ n. returned n p.command_result.status (wanted_length c.args.header.now)) many,
    ) p.reached p.steps

pub returns-in-Unknown-clause-handled : goal.returns-in-Unknown-clause-handled
returns-in-Unknown-clause-handled g c =
    handled_by _ _ _ _ _ _ _ _ (omega arith) c.in-Unknown.is (bare_is c.args.received.now c.bare-in-Unknown.ensures)
    refl (refl, refl)
