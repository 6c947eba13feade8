use Rattle.std.proofs.Common.{◌≡◌, [], drop}
use Rattle.nv_file.proofs.Words.{as_table, items_as, items_view, tables_view}
use Rattle.nv_file.proofs.section.Section.tables_in.Given as goal

abbrev pub invariant-loop-item : goal.invariant-loop-item
invariant-loop-item l = items_as as_table (tables_view l.tables.items)
    (items_view (drop l.item-index l.items)) ≡ items_as as_table [] (items_view l.items)
