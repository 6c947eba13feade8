use Rattle.std.proofs.Common.{◌≡◌, ◌-◌, ◌≤◌, drop, false, length}
use Rattle.std.specs.Fmt.{digits, digits_onto}
use Rattle.nv_print.proofs.hexadecimal.write_digits.Given as goal

-- the digits of the rest before those that are written
abbrev pub invariant-loop-start : goal.invariant-loop-start
invariant-loop-start l = record {
  after : 2 ≤ l.start;
  within : l.start ≤ 66;
  room : length l.room ≡ 66;
  digits : digits_onto (l.start - 2) 16 false l.rest (drop l.start l.room) ≡ digits 16 false l.number;
}

abbrev pub decreases-loop-start : goal.decreases-loop-start
decreases-loop-start l = l.start
