use Rattle.std.proofs.Common.{◌≡◌, ◌∙◌, ◌++◌, ◌∷◌, [], ap, sym, map, subst}
use Rattle.nv_subsystem.proofs.Words.{All, All-push, controller_entry_view, controller_of, controller_view, IsSized}
use Rattle.nv_subsystem.proofs.Words.{map_push, namespace_entry_view}
use Rattle.nv_subsystem.proofs.from_file.controllers.Goals as goal

pub loop-entry-preserved : goal.loop-entry-preserved
loop-entry-preserved c =
    let view = controller_view in
    let of = controller_of (map namespace_entry_view c.args.namespaces.now) in
    let made = c.loop-entry.made.items in
    let x = c.in_ok-controller.field-0 in
    let so_far = c.loop-entry.invariant in
    let items : c.push.new.self.items ≡ made ++ x ∷ [] = c.in_ok-push.ensures.items in (
      ap (map view) items ∙ map_push view made x
          ∙ ap (λ xs. xs ++ view x ∷ []) so_far.0 ∙ ap
          (λ v. map of (map controller_entry_view c.loop-entry.yielded) ++ v ∷ [])
          c.in_ok-controller.ensures.value
          ∙ sym (ap (map of) (map_push controller_entry_view c.loop-entry.yielded c.in-Some.entry)
          ∙ map_push of (map controller_entry_view c.loop-entry.yielded)
          (controller_entry_view c.in-Some.entry)),
      subst (All (IsSized c.args.nn)) (sym items)
          (All-push (IsSized c.args.nn) made x so_far.1 c.in_ok-controller.ensures.sized),
    )
