use Rattle.nv_script.proofs.Words.{[], ◌++◌, ◌+◌, arith, done_more, err_from_is_err_and, length-drop, pieces, refl}
use Rattle.nv_script.proofs.Words.{take, whole}
use Rattle.nv_script.proofs.FeedLaws.{Fed-executed, Fed-last, Fed-line, Fed-none, cut_at}
use Rattle.nv_script.proofs.running.feed.Goals as goal

pub loop-end-init : goal.loop-end-init
loop-end-init g c = record {
  numbered = omega arith;
  out_ready = c.requires.out_ready;
  messages_ready = c.requires.messages_ready;
  linked = c.requires.linked;
  fed = ([], refl, λ s bytes o m d up fed. Fed-none s bytes _ _ _ fed);
}

pub returns-in_err-execute_line-clause-left : goal.returns-in_err-execute_line-clause-left
returns-in_err-execute_line-clause-left g c s bytes o m d up is stands =
    let e = err_from_is_err_and c.from_residual.result c.from_residual.ensures.1 in
    let so_far = c.loop-end.invariant.fed in
    let rest = c.loop-end.rest.now in
    let end = c.in-Some.end in
    let before = pieces ((bytes ++ so_far.0) ++ take end rest) in
    let fed = so_far.2 s bytes o m d up (is, stands) in
    let fed = Fed-line s bytes so_far.0 rest end _ _ _ _ c.in-Some.ensures c.extend.ensures fed in
    let cut = c.in_err-execute_line.ensures.left before.last (whole s before.ended) o m d up fed.0 fed.1 in
    rw (e.1, e.2) (cut_at _ s bytes c.args.piece.now so_far.0 rest end _ so_far.1 c.in-Some.ensures cut)

pub loop-end-preserved : goal.loop-end-preserved
loop-end-preserved g c =
    let inv = c.loop-end.invariant in
    let so_far = inv.fed in
    let rest = c.loop-end.rest.now in
    let end = c.in-Some.end in
    record {
      numbered = omega (arith, c.execute_line.ensures.number, c.in-Some.ensures.0.high, length-drop (end + 1) rest);
      out_ready = c.in_ok-execute_line.ensures.failure.0;
      messages_ready = c.in_ok-execute_line.ensures.failure.1;
      linked = c.execute_line.ensures.linked;
      fed = (
        so_far.0 ++ take (end + 1) rest,
        done_more _ _ _ (end + 1) so_far.1,
        λ s bytes o m d up fed.
            let p = pieces ((bytes ++ so_far.0) ++ take end rest) in
            let fed = so_far.2 s bytes o m d up fed in
            let fed = Fed-line s bytes so_far.0 rest end _ _ _ _ c.in-Some.ensures c.extend.ensures fed in
            let done = c.in_ok-execute_line.ensures.left p.last (whole s p.ended) o m d up fed.0 fed.1 in
            Fed-executed s bytes so_far.0 rest end _ _ _ c.in-Some.ensures c.execute_line.ensures.emptied done,
      );
    }

pub returns-clause-left : goal.returns-clause-left
returns-clause-left g c s bytes o m d up is stands =
    let so_far = c.loop-end.invariant.fed in
    let rest = c.loop-end.rest.now in
    let fed = so_far.2 s bytes o m d up (is, stands) in
    let none = c.in_default.ensures in
    Fed-last s bytes c.args.piece.now so_far.0 rest _ _ _ _ so_far.1 none c.extend-2.ensures fed
