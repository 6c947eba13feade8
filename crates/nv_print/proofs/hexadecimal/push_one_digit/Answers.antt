use Rattle.nv_print.proofs.Words.{arith, common_steps}
use Rattle.std.proofs.lemmas.Fmt.{hex_one_digit}
use Rattle.nv_print.proofs.HexadecimalDigits.{glyph_low}
use Rattle.nv_print.proofs.hexadecimal.push_one_digit.Goals as goal

pub returns : goal.returns
returns c = grind (arith, common_steps, hex_one_digit, glyph_low)
