use Rattle.nv_print.proofs.Words.{arith, common_steps}
use Rattle.nv_print.proofs.Words.{◌-◌, ◌∙◌, ◌≡◌, ap, digits_onto, drop, false}
use Rattle.std.proofs.lemmas.List.{drop_all}
use Rattle.nv_print.proofs.HexadecimalDigits.{first_digit, later_digit, none_written, put_before}
use Rattle.nv_print.proofs.hexadecimal.write_digits.Goals as goal

pub loop-start-init : goal.loop-start-init
loop-start-init c =
    let none = drop_all 66 c.args.room.now (omega (arith, c.told-room)) in
    record {
      after = omega arith;
      within = omega arith;
      room = c.told-room;
      digits = ap (digits_onto 64 16 false c.args.number) none ∙ none_written c.args.number;
    }

pub loop-start-preserved : goal.loop-start-preserved
loop-start-preserved c = grind (arith, common_steps, later_digit, put_before)

pub returns-then-rest-eq0 : goal.returns-then-rest-eq0
returns-then-rest-eq0 c = grind (arith, common_steps, first_digit, put_before)

pub returns-after-loop-start-clause-value : goal.returns-after-loop-start-clause-value
returns-after-loop-start-clause-value c =
    let l = c.loop-start in
    let none : 0 ≡ l.start - 2 = omega arith in
    ap (λ k. digits_onto k 16 false l.rest (drop l.start l.room)) none ∙ l.invariant.digits
