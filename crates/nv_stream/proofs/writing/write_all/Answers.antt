use Rattle.std.proofs.Common.{rules, ◌++◌, take}
use Rattle.nv_stream.proofs.Taking.{Appends-join, done_more}
use Rattle.nv_stream.proofs.writing.write_all.Goals as goal

pub loop-rest-preserved : goal.loop-rest-preserved
loop-rest-preserved g c =
    let w = c.loop-rest.invariant.written in
    record {
      failed = search rules;
      written = (
        w.0 ++ take c.in-Some.taken c.loop-rest.rest.now,
        done_more _ _ _ c.in-Some.taken w.1,
        Appends-join _ _ _ _ _ w.2 c.in-Some.ensures.bytes,
      );
    }
