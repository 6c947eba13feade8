use Rattle.std.proofs.Common.{◌∙◌, ◌-◌, ◌++◌, ap₂, arith, length, replicate, sym}
use Rattle.std.specs.Cmp.Lexicographic.{same_text}
use Rattle.std.proofs.lemmas.List.{take-append-drop}
use Rattle.nv_print.proofs.PrintableLaws.{equal, padding_next}
use Rattle.nv_print.proofs.printable.without_padding.Goals as goal

pub loop-before-preserved : goal.loop-before-preserved
loop-before-preserved c =
    let bytes = c.args.bytes.now in
    let rest = c.loop-before.rest.now in
    let before = c.in-Some.before.now in
    let last = c.in-Some.last.now in
    let cut = c.in-Some.ensures.cases in
    let split = sym (ap₂ (λ xs ys. xs ++ ys) cut.0 cut.1 ∙ take-append-drop (length rest - 8) rest) in
    let spaces = same_text last (replicate 8 32) (equal _ c.if-ne.ensures) in (
      padding_next bytes rest before last (length bytes - length rest) (length bytes - length before) split spaces
          c.loop-before.invariant.0 (omega (arith, cut.2, c.loop-before.invariant.1)),
      omega (arith, cut.2, c.loop-before.invariant.1),
    )
