use Rattle.std.proofs.Common.{◌∙◌, [], arith, take}
use Rattle.std.proofs.lemmas.List.{length-take-le}
use Rattle.nv_serve.specs.inner.Reading.{request}
use Rattle.nv_serve.proofs.ReadingLaws.{data_cut, header_cut, not_empty, reads_both}
use Rattle.nv_serve.proofs.reading.take_request.Goals as goal

pub returns-in-Ended-clause-taken : goal.returns-in-Ended-clause-taken
returns-in-Ended-clause-taken g c =
    let f = c.in-Ended.ensures.filled in
    let long = c.fill.auto.buf ∙ c.told-header in
    let cut = header_cut long f.1 f.0 in
    let some = length-take-le c.in-Ended.field-0 c.fill.new.buf (omega (arith, f.1)) in (
      request (take c.in-Ended.field-0 c.fill.new.buf) [],
      cut.0,
      not_empty (take c.in-Ended.field-0 c.fill.new.buf) [] (omega (arith, some, c.in-Ended.field-0-test)),
      cut.1,
      f.2,
    )

pub returns-in-Failed-clause-taken : goal.returns-in-Failed-clause-taken
returns-in-Failed-clause-taken g c =
    let f = c.in-Failed.ensures.filled in
    let long = c.fill.auto.buf ∙ c.told-header in
    let cut = header_cut long f.1 f.0 in
    (request (take c.in-Failed.field-0 c.fill.new.buf) [], cut.0, cut.1, f.2)

pub returns-in-Ended-fill-clause-taken : goal.returns-in-Ended-fill-clause-taken
returns-in-Ended-fill-clause-taken g c =
    let first = c.in-Whole.ensures.filled in
    let f = c.in-Ended-fill.ensures.filled in
    let len = c.sent_length-len.ensures in
    let long = c.fill.auto.buf ∙ c.told-header in (
      request c.fill.new.buf (take c.in-Ended-fill.field-0 c.fill-2.new.buf),
      data_cut c.args.sent.now c.fill-2.new.buf long c.get-said.ensures.value
          (omega (arith, c.if-said-gt-MOST_DATA.false)) len.length len.few c.requires.long c.fill-2.auto.buf f.1,
      not_empty c.fill.new.buf (take c.in-Ended-fill.field-0 c.fill-2.new.buf) (omega (arith, long)),
      reads_both first.0 f.0 (omega (arith, f.1)),
      f.2,
    )

pub returns-in-Failed-fill-clause-taken : goal.returns-in-Failed-fill-clause-taken
returns-in-Failed-fill-clause-taken g c =
    let first = c.in-Whole.ensures.filled in
    let f = c.in-Failed-fill.ensures.filled in
    let len = c.sent_length-len.ensures in
    let long = c.fill.auto.buf ∙ c.told-header in (
      request c.fill.new.buf (take c.in-Failed-fill.field-0 c.fill-2.new.buf),
      data_cut c.args.sent.now c.fill-2.new.buf long c.get-said.ensures.value
          (omega (arith, c.if-said-gt-MOST_DATA.false)) len.length len.few c.requires.long c.fill-2.auto.buf f.1,
      reads_both first.0 f.0 (omega (arith, f.1)),
      f.2,
    )
