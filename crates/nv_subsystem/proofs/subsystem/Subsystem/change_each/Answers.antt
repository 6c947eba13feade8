use Rattle.std.proofs.Common.{◌∙◌, ap, sym, subst}
use Rattle.nv_subsystem.proofs.Words.{All, HasPlace, IsSized, with_items_is}
use Rattle.nv_subsystem.proofs.SoundLaws.{sound-controllers}
use Rattle.nv_subsystem.proofs.subsystem.Subsystem.change_each.Goals as goal

pub change_each-requires : goal.change_each-requires
change_each-requires c =
    let s = c.self.inside in (
      s.slots.count,
      subst (All (IsSized s.slots.count)) (sym c.deref_mut.ensures.value) c.self.invariant.0.controllers,
      subst (λ nn. HasPlace nn c.args.change) (ap (λ t. t.nn) (sym c.self.view_is)) c.requires,
    )

pub invariant_of-self : goal.invariant_of-self
invariant_of-self c =
    let s = c.self.inside in
    let len = c.change_each.auto.controllers ∙ c.deref_mut.ensures.len in
    rw (with_items_is s.controllers c.change_each.new.controllers len)
    (sound-controllers s.slots s.formats.items s.controllers.items c.change_each.new.controllers
    s.unallocated s.tnvmcap c.self.invariant (len ∙ s.controllers.ok.0)
    (c.change_each.ensures.sized s.slots.count
    (subst (All (IsSized s.slots.count)) (sym c.deref_mut.ensures.value)
    c.self.invariant.0.controllers)))
