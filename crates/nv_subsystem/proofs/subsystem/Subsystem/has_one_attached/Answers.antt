use Rattle.std.proofs.Common.{rules, tests, ◌≡◌, ◌∙◌, ◌&&◌, ap, sym}
use Rattle.nv_subsystem.proofs.Words.{any_from_yields_List, Controller, controller_view, has_attached, is_listed}
use Rattle.nv_subsystem.proofs.Words.{list_any, list_any-map, YieldsList-from_slice}
use Rattle.nv_subsystem.proofs.subsystem.Subsystem.has_one_attached.Goals as goal

pub returns : goal.returns
returns c =
    let test = λ (x : Controller). is_listed c.args.ids.now x && has_attached c.args.nsid x in
    let is : c.any.result ≡ list_any (λ x. test (controller_view x)) c.deref.result.now =
    any_from_yields_List (λ x. test (controller_view x)) _ _ c.any.result c.any.ensures.ran
    (YieldsList-from_slice c.deref.result.now cc) (λ x b q k. search (rules, tests)) in
    is ∙ ap (list_any (λ x. test (controller_view x))) c.deref.ensures.value
    ∙ sym (list_any-map test controller_view c.self.inside.controllers.items)
    ∙ ap (λ s. list_any test s.controllers) c.self.view_is
