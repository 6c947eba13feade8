use Rattle.std.proofs.Common.{◌∙◌, ◌-◌, arith, drop}
use Rattle.std.proofs.lemmas.Bool.Decides.{nat_tests}
use Rattle.std.proofs.lemmas.List.{length-drop, length-take-le}
use borrow.Rule.Slice.PartMut.{same_len_mid}
use Rattle.nv_serve.proofs.ReadingLaws.{fills_more}
use Rattle.nv_serve.proofs.reading.fill.Goals as goal

pub loop-filled-preserved : goal.loop-filled-preserved
loop-filled-preserved g c =
    let inv = c.loop-filled.invariant in
    let some = c.in-Some.ensures in
    let at = c.loop-filled.filled in
    let buf = c.loop-filled.buf in
    let k = c.min-end.result - at in
    let long = same_len_mid at k buf c.read.new.buf c.read.auto.buf in
    let part = length-take-le k (drop at buf) (omega (arith, c.min-end.ensures, length-drop at buf)) in
    record {
      few = omega (arith, some.bound, c.read.auto.buf, part, long, c.min-end.ensures, c.loop-filled-test.true);
      len = long ∙ inv.len;
      fills = fills_more k c.read.new.buf inv.fills inv.few some.bound some.bytes.0 some.count;
      ready = record {
        not_failed = some.failure;
        not_ended = grind (arith, nat_tests, some.end, c.in-Some.count-test);
        calls = omega (arith, some.call, some.count, inv.ready.calls, c.in-Some.count-test);
      };
    }
