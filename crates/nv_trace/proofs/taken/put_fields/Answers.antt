use Rattle.std.proofs.Common.{[], ◌∷◌, ◌∙◌, codes}
use Rattle.nv_trace.specs.Lines.{field_text}
use Rattle.nv_trace.proofs.LineLaws.{added, as_was, fielded, more_parts}
use Rattle.nv_trace.proofs.taken.put_fields.Goals as goal

pub returns : goal.returns
returns c =
    let e = c.args.entry.now in
    more_parts 319 c.args.line.now (field_text (codes "fuse") e.fuse)
    (field_text (codes "psdt") e.psdt ∷ field_text (codes "mptr") e.mptr ∷
    field_text (codes "cdw10") e.cdw10 ∷ field_text (codes "cdw11") e.cdw11 ∷
    field_text (codes "cdw12") e.cdw12 ∷ field_text (codes "cdw13") e.cdw13 ∷
    field_text (codes "cdw14") e.cdw14 ∷ field_text (codes "cdw15") e.cdw15 ∷ [])
    c.put_field-9.new.line
    (added c.put_field.new.line
    (c.put_field.ensures.field ∙ fielded c.args.line.now (codes "fuse") c.from.ensures)
    (added c.put_field-2.new.line
    (c.put_field-2.ensures.field ∙ fielded c.put_field.new.line (codes "psdt") c.from-2.ensures)
    (added c.put_field-3.new.line c.put_field-3.ensures.field
    (added c.put_field-4.new.line
    (c.put_field-4.ensures.field ∙ fielded c.put_field-3.new.line (codes "cdw10") c.from-3.ensures)
    (added c.put_field-5.new.line
    (c.put_field-5.ensures.field ∙ fielded c.put_field-4.new.line (codes "cdw11") c.from-4.ensures)
    (added c.put_field-6.new.line
    (c.put_field-6.ensures.field ∙ fielded c.put_field-5.new.line (codes "cdw12") c.from-5.ensures)
    (added c.put_field-7.new.line
    (c.put_field-7.ensures.field ∙ fielded c.put_field-6.new.line (codes "cdw13") c.from-6.ensures)
    (added c.put_field-8.new.line
    (c.put_field-8.ensures.field ∙ fielded c.put_field-7.new.line (codes "cdw14") c.from-7.ensures)
    (added c.put_field-9.new.line
    (c.put_field-9.ensures.field ∙ fielded c.put_field-8.new.line (codes "cdw15") c.from-8.ensures) as_was)))))))))
