use Rattle.std.proofs.Common.{◌≡◌, length, map, take}
use Rattle.nv_command.specs.Logs.{entry_received}
use Rattle.nv_command.proofs.reply_room.read_entries.Given as goal

abbrev pub invariant-loop-index : goal.invariant-loop-index
invariant-loop-index l = record {
  size : length l.out ≡ 256;
  written : take l.index l.out ≡ map entry_received (take l.index l.chunks);
}
