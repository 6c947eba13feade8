use Rattle.std.proofs.Common.{arith, sym}
use Rattle.nv_subsystem.proofs.Words.{used-remove}
use Rattle.nv_subsystem.proofs.SoundLaws.{sound-remove, sound-absent}
use Rattle.nv_subsystem.proofs.subsystem.Subsystem.remove_namespace.Goals as goal

pub overflow_add-self : goal.overflow_add-self
overflow_add-self c =
    let s = c.self.inside in
    omega (
      arith,
      c.self.invariant.1,
      used-remove s.slots.values c.args.nsid c.in-Some.namespace
          (sym c.in-Some.ensures.value),
    )

pub invariant_of-self : goal.invariant_of-self
invariant_of-self c =
    let s = c.self.inside in
    rw c.remove.ensures.values
    (sound-remove s.slots s.formats.items s.controllers.items s.unallocated s.tnvmcap
    c.self.invariant c.args.nsid c.in-Some.namespace (sym c.in-Some.ensures.value))

pub invariant_of-self-in_default : goal.invariant_of-self-in_default
invariant_of-self-in_default c =
    let s = c.self.inside in
    rw c.remove.ensures.values
    (sound-absent s.slots s.formats.items s.controllers.items s.unallocated s.tnvmcap
    c.self.invariant c.args.nsid (sym c.in_default.ensures.value))
