use Rattle.std.proofs.Common.{◌≡◌, ◌-◌, ap, arith}
use Rattle.nv_subsystem.proofs.Words.{controller_view, id_ctrl_of, padded, State, unallocated, used}
use Rattle.nv_subsystem.proofs.subsystem.Subsystem.id_ctrl.Goals as goal

pub returns : goal.returns
returns c =
    let s = c.self.inside in
    let left : s.unallocated ≡ s.tnvmcap - used s.slots.values = omega (arith, c.self.invariant.1) in
    rw (
      c.padded.ensures,
      c.padded-2.ensures,
      c.padded-3.ensures,
      c.padded-4.ensures,
      c.as_bytes.ensures.value,
      c.as_bytes-2.ensures.value,
      c.as_bytes-3.ensures.value,
      c.as_bytes-4.ensures.value,
      c.cmic.ensures,
      c.from.ensures,
      c.from-2.ensures,
      left,
      c.count.ensures.value,
      c.fna.ensures,
    )
    (ap (λ (t : State). record (id_ctrl_of c.args.self.now (controller_view c.args.controller.now)) {
      tnvmcap = t.tnvmcap;
      unvmcap = unallocated t;
      nn = t.nn;
      subnqn = padded 256 0 t.subnqn;
    }) c.self.view_is)
