-- What a controller can do with a submission ring and the completion ring for its entries, in a memory of a size.
use Rattle.std.specs.Prelude.{ℕ, ◌+◌, ◌-◌, ◌==◌, ◌&&◌, not, nat_le, Bool, List, length, Option, None, Some}
use Rattle.std.specs.Prelude.{if◌then◌else◌}
use Rattle.nv_layout.specs.declared.sqe.Sqe.{Sqe}
use Rattle.nv_queue.specs.Numbers.{distance}
use Rattle.nv_queue.specs.Rings.{FetchNumbers, PostNumbers}
use Rattle.nv_queue.specs.Slots.{completion_place, next_submission, submission_place}

-- a completion can be posted: a slot is free, and lies in the memory
abbrev pub can_complete : PostNumbers → ℕ → Bool
can_complete post size =
    not (distance post.depth post.posted post.told == post.depth - 1)
    && nat_le (completion_place post.base post.depth post.posted + 16) size

-- an entry can be taken and completed: it waits, its slot lies in the memory, and a completion can be posted
abbrev pub can_take : FetchNumbers → PostNumbers → ℕ → Bool
can_take fetch post size =
    not (fetch.fetched == fetch.rung)
    && (nat_le (submission_place fetch.base fetch.depth fetch.fetched + 64) size && can_complete post size)

-- the entry that is the next to be taken
abbrev pub next_entry : FetchNumbers → PostNumbers → List ℕ → Option Sqe
next_entry fetch post bytes =
    if can_take fetch post (length bytes) then Some (next_submission bytes fetch) else None
