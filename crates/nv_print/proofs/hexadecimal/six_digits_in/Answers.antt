use Rattle.nv_print.proofs.Words.{arith, common_steps}
use Rattle.nv_print.proofs.HexadecimalDigits.{six_digits_utf8}
use Rattle.nv_print.proofs.hexadecimal.six_digits_in.Goals as goal

pub returns-clause-value : goal.returns-clause-value
returns-clause-value c = grind (arith, common_steps)

pub returns-clause-utf8 : goal.returns-clause-utf8
returns-clause-utf8 c = rw (returns-clause-value c) (six_digits_utf8 c.args.number)
