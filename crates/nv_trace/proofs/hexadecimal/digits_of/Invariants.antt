use Rattle.std.specs.Prelude.{◌≡◌, ◌<◌, ◌≤◌, ◌+◌, ◌^◌, false, drop, length}
use Rattle.std.specs.Fmt.{digits_onto}
use Rattle.nv_trace.specs.Lines.{hex}
use Rattle.nv_trace.proofs.hexadecimal.digits_of.Given as goal

abbrev pub invariant-loop-rest : goal.invariant-loop-rest
invariant-loop-rest l =
    (digits_onto (48 + l.at) 16 false l.rest (drop l.at l.room) ≡ hex l.fn.number) × (l.rest < 16 ^ l.at)
    × (0 < l.at) × (l.at ≤ 16) × (length l.room ≡ 16)

abbrev pub decreases-loop-rest : goal.decreases-loop-rest
decreases-loop-rest l = l.at
