use Rattle.std.proofs.Common.{◌≡◌, ◌∙◌, ◌+◌, ◌-◌, ◌++◌, ap, arith, drop, length, replicate, take}
use Rattle.nv_layout.proofs.PartLaws.{part_in_two}
use Rattle.nv_command.proofs.reply.fill_from.Goals as goal

pub returns : goal.returns
returns c =
    let bytes = c.args.bytes.now in
    let at = c.min-from.result in
    let count = c.min-count.result in
    let all : at + count - at ≡ count = omega arith in
    let rest : length c.split_at_mut-written.result.1.now ≡ length c.args.out.now - count =
    omega (arith, c.split_at_mut-written.ensures.back_len) in
    (λ i. (c.copy_from_slice.ensures.after ∙ ap (λ n. take n (drop at bytes)) all) i
    ++ (c.fill.ensures.after (λ y e. e) ∙ ap (λ n. replicate n 0) rest) i)
    ∙ part_in_two bytes c.args.from (length c.args.out.now) at count c.min-from.ensures c.min-count.ensures
