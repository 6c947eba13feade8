use Rattle.std.proofs.Common.{◌≡◌}
use Rattle.nv_controller.specs.Tags.{scenes_after}
use Rattle.nv_controller.proofs.Words.{AreShown, exchanges, scene, untagged}
use Rattle.nv_controller.proofs.TurnLaws.{Goes}
use Rattle.nv_controller.proofs.machine.take_entries.Given as goal

abbrev pub invariant-loop-count : goal.invariant-loop-count
invariant-loop-count g l = record {
  goes : Goes l.count (g.M.PagedMemory.page_len l.initial.mem) (g.M.PagedMemory.page_len l.mem) l.given.ctrl
      l.initial.subsystem l.subsystem
      (scene (untagged l.initial.subsystem) l.initial.rings (g.M.PagedMemory.bytes l.initial.mem))
      (scene (untagged l.subsystem) l.rings (g.M.PagedMemory.bytes l.mem));
  tagged : scene l.subsystem l.rings (g.M.PagedMemory.bytes l.mem)
      ≡ scenes_after l.count l.given.ctrl
      (scene l.initial.subsystem l.initial.rings (g.M.PagedMemory.bytes l.initial.mem));
  shown : AreShown g.O.Observer.was_shown l.given.ctrl (exchanges l.count l.given.ctrl
      (scene l.initial.subsystem l.initial.rings (g.M.PagedMemory.bytes l.initial.mem))) l.initial.observer l.observer;
}
