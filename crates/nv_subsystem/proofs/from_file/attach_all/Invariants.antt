use Rattle.std.proofs.Common.{◌≡◌, drop, map}
use Rattle.nv_subsystem.proofs.Words.{fold, namespace_entry_view, with_attachment}
use Rattle.nv_subsystem.proofs.from_file.attach_all.Given as goal

abbrev pub invariant-loop-entry : goal.invariant-loop-entry
invariant-loop-entry l =
    let at_start = l.initial.attached in
    let attach = fold (with_attachment l.cntlid) in
    (l.attached.first ≡ at_start.first) × (l.attached.count ≡ at_start.count)
    × (attach l.attached.members (map namespace_entry_view (drop l.entry-index l.entries)) ≡ attach
    at_start.members (map namespace_entry_view l.entries))
