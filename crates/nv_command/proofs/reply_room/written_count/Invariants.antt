use Rattle.std.proofs.Common.{◌≡◌, ◌-◌, ◌≤◌, drop, length, map, replicate}
use Rattle.nv_layout.specs.ErrorEntry.{no_entry}
use Rattle.nv_command.specs.Logs.{entry_received}
use Rattle.nv_command.proofs.reply_room.written_count.Given as goal

-- the entries from here on are zeros
abbrev pub invariant-loop-count : goal.invariant-loop-count
invariant-loop-count l = record {
  within : l.count ≤ length l.chunks;
  others : map entry_received (drop l.count l.chunks) ≡ replicate (length l.chunks - l.count) no_entry;
}

abbrev pub decreases-loop-count : goal.decreases-loop-count
decreases-loop-count l = l.count
