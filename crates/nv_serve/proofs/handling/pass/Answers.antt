use Rattle.std.proofs.Common.{◌≡◌, ◌∙◌, ap, arith, drop, length}
use Rattle.std.proofs.lemmas.List.{length-take-le}
use Rattle.nv_serve.specs.Header.{wanted_length}
use Rattle.nv_serve.specs.Serving.{returned}
use Rattle.nv_serve.specs.declared.answer.AnswerHeader.{AnswerHeader}
use Rattle.nv_serve.proofs.ServingLaws.{front_is, returned_by, sent_on}
use Rattle.nv_serve.proofs.handling.pass.Goals as goal

pub returns-clause-passed : goal.returns-clause-passed
returns-clause-passed g c =
    let b = g.B.Bus.meaning c.args.bus.now in
    let controller = c.args.header.now.controller in
    let wanted = c.wanted_length-wanted in
    let sent = c.passthrough-command_result in
    let e = sent.ensures in
    let full : length sent.new.out ≡ wanted_length c.args.header.now =
    e.room ∙ length-take-le wanted.result c.args.received.now (omega (arith, c.requires.few, c.requires.long))
    ∙ wanted.ensures.length in
    let header : c.returned.result ≡ returned sent.result.dword0 sent.result.status (wanted_length c.args.header.now) =
    c.returned.ensures ∙ ap (returned _ _) wanted.ensures.length in
    rw (front_is (drop wanted.result c.args.received.now) header full) (record {
      command_result = sent.result;
      came = returned_by b c.args.driver.now controller c.args.entry.now c.args.sent.now c.requires.ctrl e.answer e.out
          full;
      header = header;
      reached = sent_on b (g.B.Bus.meaning sent.new.bus) c.args.driver.now controller c.args.entry.now c.args.sent.now
          c.requires.ctrl e.state e.driver;
      steps = (e.driver, rw (ap (λ (h : AnswerHeader). h.status) header) e.steps);
    })
