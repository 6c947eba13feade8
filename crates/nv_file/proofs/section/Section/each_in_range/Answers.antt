use Rattle.std.proofs.Common.{◌≡◌, ◌∙◌, ◌&&◌, ◌++◌, ◌∷◌, [], ap, Err, get_or, inr, map, pos, refl, rules, take, w64}
use Rattle.std.proofs.lemmas.Int.{to_z-of_z}
use mir.Val.{SFits}
use Rattle.nv_file.proofs.Words.{is_within, list_all_at, list_all_more, map_push, number, take_all, take_more}
use Rattle.nv_file.proofs.KeyLaws.{is_in_limits, same_fault, was_in_limits, was_out_of_limits}
use Rattle.nv_file.proofs.section.Section.each_in_range.Goals as goal

pub returns-in_err-number : goal.returns-in_err-number
returns-in_err-number c =
    let zs = c.args.integers.now in
    let i = c.loop-integer.integer-index in
    let z = get_or zs i (pos 0) in
    let fits : SFits w64 z = search rules in
    let fails = rw (to_z-of_z w64 z fits) at c.in_err-number.ensures in
    let outside = was_out_of_limits c.args.self.now.name c.args.key (is_within 0 c.args.high z) _ fails in
    let not_all = list_all_at (is_within 0 c.args.high) zs i (pos 0) c.loop-integer-test.true outside in
    let is : c.from_residual.result ≡ Err c.in_err-number.field-0.0 = search rules in
    rw is (inr (same_fault _ _ _ _ _ fails not_all))

pub loop-integer-preserved : goal.loop-integer-preserved
loop-integer-preserved c =
    let zs = c.args.integers.now in
    let i = c.loop-integer.integer-index in
    let z = get_or zs i (pos 0) in
    let xs = c.loop-integer.numbers.items in
    let p = is_within 0 c.args.high in
    let below = c.loop-integer-test.true in
    let fits : SFits w64 z = search rules in
    let read = rw (to_z-of_z w64 z fits) at c.in_ok-number.ensures in
    let grown : c.push.new.self.items ≡ xs ++ c.in_ok-number.number ∷ [] = c.in_ok-push.ensures.items in
    record {
      within = list_all_more p zs i (pos 0) below
          ∙ ap (λ b. b && p z) c.loop-integer.invariant.within ∙ was_in_limits _ _ _ read.0;
      numbers = rw (
        grown,
        take_more zs i (pos 0) below,
        map_push number (take i zs) z,
        c.loop-integer.invariant.numbers,
        read.1,
      ) refl;
    }

pub returns : goal.returns
returns c =
    let zs = c.args.integers.now in
    let all = take_all c.loop-integer.integer-index zs c.loop-integer-test.false in (
      is_in_limits _ _ _ (rw all at c.loop-integer.invariant.within),
      c.loop-integer.invariant.numbers ∙ ap (map number) all,
    )
