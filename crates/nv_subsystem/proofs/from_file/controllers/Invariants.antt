use Rattle.std.proofs.Common.{◌≡◌, map}
use Rattle.nv_subsystem.proofs.Words.{All, controller_entry_view, controller_of, controller_view, IsSized}
use Rattle.nv_subsystem.proofs.Words.{namespace_entry_view}
use Rattle.nv_subsystem.proofs.from_file.controllers.Given as goal

abbrev pub invariant-loop-entry : goal.invariant-loop-entry
invariant-loop-entry l =
    (map controller_view l.made.items ≡ map (controller_of (map namespace_entry_view l.namespaces))
    (map controller_entry_view l.yielded))
    × All (IsSized l.nn) l.made.items
