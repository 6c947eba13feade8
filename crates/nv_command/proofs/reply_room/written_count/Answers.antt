use Rattle.std.proofs.Common.{◌-◌, [], arith, get_or, replicate}
use Rattle.std.specs.Cmp.Lexicographic.{same_text}
use Rattle.nv_command.proofs.RoomLaws.{blank_before}
use Rattle.nv_command.proofs.reply_room.written_count.Goals as goal

pub loop-count-preserved : goal.loop-count-preserved
loop-count-preserved c =
    let now = c.loop-count.invariant in
    let count = c.loop-count.count in
    let chunks = c.args.chunks.now in
    record {
      within = omega arith;
      others = blank_before chunks count (omega arith) now.within
          (same_text (get_or chunks (count - 1) []) (replicate 64 0) c.if-eq.ensures) now.others;
    }
