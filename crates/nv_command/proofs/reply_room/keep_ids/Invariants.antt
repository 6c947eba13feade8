use Rattle.std.proofs.Common.{◌≡◌, take}
use Rattle.nv_command.proofs.reply_room.keep_ids.Given as goal

abbrev pub invariant-loop-nsid : goal.invariant-loop-nsid
invariant-loop-nsid l = l.list ≡ take l.nsid-index l.ids
