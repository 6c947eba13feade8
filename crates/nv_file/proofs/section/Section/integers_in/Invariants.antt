use Rattle.std.proofs.Common.{◌≡◌, [], drop}
use Rattle.nv_file.proofs.Words.{as_integer, items_as, items_view}
use Rattle.nv_file.proofs.section.Section.integers_in.Given as goal

abbrev pub invariant-loop-item : goal.invariant-loop-item
invariant-loop-item l = items_as as_integer l.integers.items
    (items_view (drop l.item-index l.values)) ≡ items_as as_integer [] (items_view l.values)
