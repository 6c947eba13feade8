use Rattle.std.proofs.Common.{◌≤◌, arith, rules}
use Rattle.nv_subsystem.proofs.Words.{free_is}
use Rattle.nv_subsystem.proofs.SoundLaws.{sound-insert}
use Rattle.nv_subsystem.proofs.subsystem.Subsystem.create.Goals as goal

pub insert-requires : goal.insert-requires
insert-requires c =
    let first = c.self.invariant.0.first in
    let is = (free_is c.args.self.now c.args.nsid c.requires.free).0 in
    let of = rw (← c.self.view_is) at is in
    (omega (arith, of.0, first), omega (arith, of.1, first))

pub invariant_of-self : goal.invariant_of-self
invariant_of-self c =
    let s = c.self.inside in
    let free = (free_is c.args.self.now c.args.nsid c.requires.free).1 in
    let room : c.bytes_needed-bytes.result ≤ s.unallocated = omega
    (arith, c.if-prove.false, c.from.ensures) in
    rw c.insert.ensures
    (sound-insert s.slots s.formats.items s.controllers.items s.unallocated s.tnvmcap
    c.self.invariant c.args.nsid _ (rw (← c.self.view_is) at free) room (search rules))
