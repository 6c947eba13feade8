use Rattle.std.proofs.Common.{◌≡◌, ◌∙◌, ◌≢◌, arith, get_or}
use Rattle.std.proofs.lemmas.Grind.{common_steps}
use Rattle.nv_line.proofs.DigitLemmas.{digits_at, plus_is_none}
use Rattle.nv_line.proofs.value.digits.Goals as goal
use Rattle.nv_line.proofs.value.digits.Goals.{else-not-is_empty-via-then-not-is_empty+else-bytes-eq43}
use Rattle.nv_line.proofs.value.digits.Goals.{else-not-is_empty-via-else-not-is_empty}

pub returns-then-bytes-eq43 : goal.returns-then-bytes-eq43
returns-then-bytes-eq43 c =
    let first : get_or c.args.text.now 0 0 ≡ 43 = grind (arith, common_steps) in
    plus_is_none c.args.base c.args.text.now c.requires.high first

pub returns : goal.returns
returns c =
    let first : get_or c.args.text.now 0 0 ≢ 43 = elim c.else-not-is_empty.branch [
      | else-not-is_empty-via-then-not-is_empty+else-bytes-eq43 w ↦ grind (arith, common_steps)
      | else-not-is_empty-via-else-not-is_empty w ↦ grind (arith, common_steps)
    ] in
    c.ok.ensures.value ∙ digits_at c.args.base c.args.text.now c.from_str_radix.result
    c.from_str_radix.ensures.value first
