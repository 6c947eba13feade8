use Rattle.nv_script.proofs.Words.{◌∙◌, Ok, ap, refl}
use Rattle.nv_script.proofs.GoingLaws.{goes-append}
use Rattle.nv_script.proofs.LineLaws.{fault_reported, line_unread, memory_refused, output_printed, refusal_reported}
use Rattle.nv_script.proofs.executing.execute_line.Goals as goal

pub returns-in-Ok-perform-clause-left : goal.returns-in-Ok-perform-clause-left
returns-in-Ok-perform-clause-left g c text p o m d up is stands =
    let left = c.in-Ok-perform.ensures.left in
    output_printed p text _ c.args.session.now stands c.controllers.result
    (c.controllers.ensures ∙ c.requires.linked.bus.banks) c.in-Request.request
    (c.in-Ok.ensures.said text is ∙ ap Ok c.in-Request.is) _ _ _
    (λ bs. goes-append _ p.batches bs _ _ _ _ _ _ stands.holds.went) c.print.result _ _ left.2 refl
    c.deref.result.now _ left.0 (c.deref.ensures.value ∙ left.1) refl c.print.ensures

pub returns-in-Err-Refused-clause-left : goal.returns-in-Err-Refused-clause-left
returns-in-Err-Refused-clause-left g c text p o m d up is stands =
    let left = rw c.in-Err-Refused.field-0-is at c.in-Err-Refused.ensures.left in
    refusal_reported p text _ c.args.session.now stands c.controllers.result
    (c.controllers.ensures ∙ c.requires.linked.bus.banks) c.in-Request.request
    (c.in-Ok.ensures.said text is ∙ ap Ok c.in-Request.is) _ _ _
    (λ bs. goes-append _ p.batches bs _ _ _ _ _ _ stands.holds.went) c.report-in-Err-Refused.result _ _ left.1 refl
    c.in-Err-Refused.status _ left.0 left.2 refl c.report-in-Err-Refused.ensures

pub returns-in-Err-Memory-clause-left : goal.returns-in-Err-Memory-clause-left
returns-in-Err-Memory-clause-left g c text p o m d up is stands =
    let left = rw c.in-Err-Memory.field-0-is at c.in-Err-Memory.ensures.left in
    memory_refused p text _ c.args.session.now stands c.controllers.result
    (c.controllers.ensures ∙ c.requires.linked.bus.banks) c.in-Request.request
    (c.in-Ok.ensures.said text is ∙ ap Ok c.in-Request.is) _ _ _
    (λ bs. goes-append _ p.batches bs _ _ _ _ _ _ stands.holds.went) left.0 _ left.1

pub returns-in-Memory-clause-left : goal.returns-in-Memory-clause-left
returns-in-Memory-clause-left g c text p o m d up is stands =
    line_unread p text _ c.args.session.now stands c.controllers.result
    (c.controllers.ensures ∙ c.requires.linked.bus.banks) c.in-Err.fault (c.in-Err.ensures.plain text is)

pub returns-in_default-clause-left : goal.returns-in_default-clause-left
returns-in_default-clause-left g c text p o m d up is stands =
    fault_reported p text _ c.args.session.now stands c.controllers.result
    (c.controllers.ensures ∙ c.requires.linked.bus.banks) c.report.result _ refl _ c.in-Err.fault _
    c.in_default.not-Memory (c.in-Err.ensures.said text is) refl refl c.report.ensures
