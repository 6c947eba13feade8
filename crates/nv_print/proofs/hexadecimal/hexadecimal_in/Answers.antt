use Rattle.nv_print.proofs.HexadecimalDigits.{hexadecimal_utf8, prefixed}
use Rattle.nv_print.proofs.hexadecimal.hexadecimal_in.Goals as goal

pub returns-clause-value : goal.returns-clause-value
returns-clause-value c =
    let digits = c.write_digits-start in
    prefixed digits.new.room digits.result c.args.number digits.ensures.after digits.ensures.within digits.array_long
    digits.ensures.value

pub returns-clause-utf8 : goal.returns-clause-utf8
returns-clause-utf8 c = rw (returns-clause-value c) (hexadecimal_utf8 c.args.number)
