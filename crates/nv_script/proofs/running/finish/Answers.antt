use Rattle.nv_script.proofs.Words.{[], ◌<◌, ◌∙◌, ◌≡◌, Some, ap, arith, err_from_is_err_and, length, pieces, rules, sym}
use Rattle.nv_script.proofs.Words.{whole}
use Rattle.nv_script.proofs.PieceLaws.{buffer_of-empty, buffer_of-some, whole-more}
use Rattle.nv_script.proofs.RunLaws.{ends_whole, last_line, no_last}
use Rattle.nv_script.proofs.running.finish.Goals.{else-not-is_empty, then-not-is_empty+in_ok-execute_line}
use Rattle.nv_script.proofs.running.finish.Goals as goal

pub returns-in_err-execute_line-clause-left : goal.returns-in_err-execute_line-clause-left
returns-in_err-execute_line-clause-left g c s bytes o m d up is stands =
    let e = err_from_is_err_and c.from_residual.result c.from_residual.ensures.1 in
    let last = (pieces bytes).last in
    let some : 0 < length last =
    buffer_of-some last
    (λ h. let k : c.args.line.now ≡ Some [] = is ∙ h in
    first_of (search rules, grind (arith, c.is_empty.ensures, c.if-not-is_empty.true))) in
    let cut = c.in_err-execute_line.ensures.left last (whole s (pieces bytes).ended) o m d up is stands in
    rw (e.1, e.2) (last_line bytes some, cut)

pub returns-clause-left : goal.returns-clause-left
returns-clause-left g c s bytes o m d up is stands =
    let ended = (pieces bytes).ended in
    let last = (pieces bytes).last in
    elim c.if-not-is_empty.branch [
      | then-not-is_empty+in_ok-execute_line w ↦
          let some : 0 < length last =
          buffer_of-some last
          (λ h. let k : c.args.line.now ≡ Some [] = is ∙ h in
          first_of (search rules, grind (arith, c.is_empty.ensures, w.if-not-is_empty.true))) in
          let done = w.in_ok-execute_line.ensures.left last (whole s ended) o m d up is stands in
          rw (w.session-is, w.out-is, w.messages-is, w.bus-is)
          (ends_whole s bytes _ _ _ (ap (whole s) (last_line bytes some) ∙ whole-more s ended last) done)
      | else-not-is_empty w ↦
          let none : c.args.line.now ≡ Some [] =
          first_of (search rules, grind (arith, c.is_empty.ensures, w.if-not-is_empty.false)) in
          rw (w.session-is, w.out-is, w.messages-is, w.bus-is)
          (ends_whole s bytes _ _ _ (ap (whole s) (no_last bytes (buffer_of-empty last (sym is ∙ none)))) stands)
    ]
