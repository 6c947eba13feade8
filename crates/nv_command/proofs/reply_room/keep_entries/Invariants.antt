use Rattle.std.proofs.Common.{◌≡◌, length, take}
use Rattle.nv_command.proofs.reply_room.keep_entries.Given as goal

abbrev pub invariant-loop-index : goal.invariant-loop-index
invariant-loop-index l = record {
  size : length l.out ≡ 256;
  written : take l.index l.out ≡ take l.index l.entries;
}
