use Rattle.std.proofs.Common.{refl, sym}
use Rattle.nv_subsystem.proofs.SoundLaws.{sound-change}
use Rattle.nv_subsystem.proofs.subsystem.Subsystem.change_format.Goals as goal

pub invariant_of-self : goal.invariant_of-self
invariant_of-self c =
    let s = c.self.inside in
    rw c.insert.ensures
    (sound-change s.slots s.formats.items s.controllers.items s.unallocated s.tnvmcap
    c.self.invariant c.args.nsid c.in-Some.namespace _ (sym c.in-Some.ensures.value) refl
    c.get-in-Some.ensures.small)
