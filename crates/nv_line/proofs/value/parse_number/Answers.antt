use Rattle.std.proofs.Common.{◌<◌, arith, get_or}
use Rattle.std.proofs.lemmas.Grind.{common_steps}
use Rattle.std.proofs.lemmas.Str.{lead_after_ascii}
use Rattle.nv_line.proofs.value.parse_number.Goals as goal
use Rattle.nv_line.proofs.value.parse_number.Goals.{else-bytes-eq120, then-bytes-eq120}

pub range_from-requires : goal.range_from-requires
range_from-requires c =
    let second : get_or c.args.text.now 1 0 < 128 = elim c.if-bytes-eq120.branch [
      | then-bytes-eq120 w ↦ grind (arith, common_steps)
      | else-bytes-eq120 w ↦ grind (arith, common_steps)
    ] in
    λ _. (grind (arith, common_steps), lead_after_ascii c.args.text.now 1 c.utf8.text second)

pub range_from-requires-else-bytes-eq88 : goal.range_from-requires-else-bytes-eq88
range_from-requires-else-bytes-eq88 c =
    let first : get_or c.args.text.now 0 0 < 128 = grind (arith, common_steps) in
    λ _. (grind (arith, common_steps), lead_after_ascii c.args.text.now 0 c.utf8.text first)
