-- The reply in a `ReplyRoom`.
use Rattle.std.specs.Prelude.{ℕ, ◌-◌, ◌≤◌, List, ◌++◌, replicate, take}
use Rattle.nv_layout.specs.ErrorEntry.{no_entry}
use Rattle.nv_layout.specs.declared.error_entry.ErrorEntry.{ErrorEntry}
use Rattle.nv_command.specs.declared.reply.Reply.{Reply}
use Rattle.nv_command.specs.declared.reply.Reply.TheVariants as reply
use Rattle.nv_command.specs.declared.reply_room.StoredReply.{StoredReply}
use Rattle.nv_command.specs.declared.reply_room.StoredReply.TheVariants as held

-- the entries of a log of which the first `present` are stored; the others hold no error
abbrev pub entries_held : ℕ → ℕ → List ErrorEntry → List ErrorEntry
entries_held count present es = take present es ++ replicate (count - present) no_entry

-- the reply that is stored, with the list and the entries that are stored separately
abbrev pub reply_held : StoredReply → List ℕ → List ErrorEntry → Reply
reply_held (held.Controller r) ids es = reply.Controller r
reply_held (held.Namespace r) ids es = reply.Namespace r
reply_held held.List ids es = reply.List ids
reply_held (held.Number n) ids es = reply.Number n
reply_held held.Done ids es = reply.Done
reply_held (held.Errors count present) ids es = reply.Errors (entries_held count present es)
reply_held (held.Smart r) ids es = reply.Smart r

-- there is room for at most 256 entries
abbrev pub IsRoom : StoredReply → Type 0
IsRoom (held.Errors count present) = (present ≤ count) × (count ≤ 256)
IsRoom h = Unit {0}
