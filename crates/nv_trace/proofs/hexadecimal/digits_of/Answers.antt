use Rattle.std.proofs.Common.{◌≡◌, ◌∙◌, ◌+◌, ◌-◌, ◌/◌, ap, arith, drop, false, length, length-drop, length-set, set}
use Rattle.std.proofs.lemmas.List.{take_all}
use Rattle.std.specs.Fmt.{digits_onto}
use Rattle.nv_trace.proofs.HexLaws.{begins, ended, fewer, goes_on, some_room}
use Rattle.nv_trace.proofs.hexadecimal.digits_of.Goals as goal

pub loop-rest-init : goal.loop-rest-init
loop-rest-init c =
    let size : length c.args.room.now ≡ 16 = omega (arith, c.fits-room) in
    (begins c.args.number c.args.room.now size, omega (arith, c.ranges.number.fits), omega arith, omega arith, size)

pub returns-then-rest-eq0 : goal.returns-then-rest-eq0
returns-then-rest-eq0 c =
    let n = c.loop-rest.at - 1 in
    let room = set c.loop-rest.room n c.digit.result in
    let size = c.loop-rest.invariant.4 in
    let same = length-set c.loop-rest.room n c.digit.result in
    take_all (16 - n) (drop n room) (omega (arith, length-drop n room, same, size))
    ∙ ap (λ d. drop n (set c.loop-rest.room n d)) c.digit.ensures
    ∙ ended c.loop-rest.at c.loop-rest.rest c.args.number c.loop-rest.room c.loop-rest.invariant.2
    c.loop-rest.invariant.3 size c.loop-rest.invariant.0 c.if-rest-eq0.true

pub loop-rest-preserved : goal.loop-rest-preserved
loop-rest-preserved c =
    let n = c.loop-rest.at - 1 in
    let rest = c.loop-rest.rest / 16 in
    let below = fewer c.loop-rest.at c.loop-rest.rest c.loop-rest.invariant.2 c.loop-rest.invariant.1 in (
      ap (λ d. digits_onto (48 + n) 16 false rest (drop n (set c.loop-rest.room n d))) c.digit.ensures
          ∙ goes_on c.loop-rest.at c.loop-rest.rest c.args.number c.loop-rest.room c.loop-rest.invariant.2
          c.loop-rest.invariant.3 c.loop-rest.invariant.4 c.loop-rest.invariant.0 c.if-rest-eq0.false,
      below,
      some_room n rest c.if-rest-eq0.false below,
      omega (arith, c.loop-rest.invariant.3),
      omega (arith, length-set c.loop-rest.room n c.digit.result, c.loop-rest.invariant.4),
    )
