use Rattle.std.proofs.Common.{◌≡◌, true, map, take}
use Rattle.nv_file.proofs.Words.{is_within, list_all, number}
use Rattle.nv_file.proofs.section.Section.each_in_range.Given as goal

abbrev pub invariant-loop-integer : goal.invariant-loop-integer
invariant-loop-integer l = record {
  within : list_all (is_within 0 l.high) (take l.integer-index l.integers) ≡ true;
  numbers : l.numbers.items ≡ map number (take l.integer-index l.integers);
}
