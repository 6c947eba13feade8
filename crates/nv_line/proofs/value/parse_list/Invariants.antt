use Rattle.std.proofs.Common.{length}
use Rattle.std.specs.List.{slice_split}
use Rattle.nv_line.specs.Values.{is_comma}
use Rattle.nv_line.proofs.ListReading.{IsReadTo}
use Rattle.nv_line.proofs.value.parse_list.Given as goal

-- the list has the identifiers of the pieces so far
abbrev pub invariant-loop-piece : goal.invariant-loop-piece
invariant-loop-piece l = IsReadTo (slice_split is_comma l.text) l.place (length l.yielded)
