-- Entries of a controller's admin queue that a program in C answers in its place.
use Rattle.std.specs.Prelude.{ℕ, ℤ, pos, ◌&&◌, Bool, true, false, List, length, Option, None, Some, if◌then◌else◌}
use Rattle.nv_layout.specs.Sqe.{bytes_of_sqe}
use Rattle.nv_layout.specs.Status.{status_of_number}
use Rattle.nv_layout.specs.declared.sqe.Sqe.{Sqe}
use Rattle.nv_host.specs.Pages.{are_pages}
use Rattle.nv_bus.specs.declared.command_result.CommandResult.{CommandResult}
use Rattle.nv_controller.specs.Caller.{answered, can_post, completed, entry_of, rings_completed, rings_fetched}
use Rattle.nv_controller.specs.Caller.{rings_posted, with_rings_of}
use Rattle.nv_controller.specs.Machine.{MachineValue}
use Rattle.nvme_controller.specs.Calls.{has}
use Rattle.nvme_controller.specs.declared.caller.Handling.{Handling}
use Rattle.nvme_controller.specs.declared.caller.Handling.TheVariants.{Look, Take, Complete}
use Rattle.nvme_controller.specs.declared.caller.Answer.{Answer}

-- ---- an entry that is shown

-- 1 if there is one, or 0
abbrev pub found_number : Option Sqe → ℤ
found_number None = pos 0
found_number (Some e) = pos 1

-- its bytes, or the bytes as they were if there is none
abbrev pub shown_bytes : Option Sqe → List ℕ → List ℕ
shown_bytes None old = old
shown_bytes (Some e) old = bytes_of_sqe e

-- ---- the next entry

-- the controller exists, and the bytes are whole pages
abbrev pub is_lent : MachineValue → ℕ → ℕ → ℕ → Bool
is_lent m c page_size size = has m c && are_pages page_size size

-- the entry that controller c takes next over these bytes
abbrev pub next_over : MachineValue → ℕ → ℕ → List ℕ → Option Sqe
next_over m c page_size bytes =
    if is_lent m c page_size (length bytes) then entry_of m c page_size bytes else None

-- the machine after an act on the next entry, if there is one
abbrev pub machine_after : Option Sqe → Handling → ℕ → MachineValue → MachineValue
machine_after None act c m = m
machine_after (Some e) Look c m = m
machine_after (Some e) Take c m = with_rings_of c rings_fetched m
machine_after (Some e) (Complete command_result) c m = with_rings_of c rings_completed m

-- the bytes after it
abbrev pub bytes_after : Option Sqe → Handling → ℕ → MachineValue → List ℕ → List ℕ
bytes_after None act c m bytes = bytes
bytes_after (Some e) Look c m bytes = bytes
bytes_after (Some e) Take c m bytes = bytes
bytes_after (Some e) (Complete command_result) c m bytes = completed m c command_result bytes e

-- ---- a completion that is owed

-- controller c can post a completion over bytes of this size
abbrev pub posts_over : MachineValue → ℕ → ℕ → ℕ → Bool
posts_over m c page_size size = is_lent m c page_size size && can_post m c page_size size

-- the machine after a completion, if one was posted
abbrev pub machine_posted : Bool → ℕ → MachineValue → MachineValue
machine_posted false c m = m
machine_posted true c m = with_rings_of c rings_posted m

-- the bytes after it
abbrev pub bytes_posted : Bool → ℕ → MachineValue → ℕ → CommandResult → List ℕ → List ℕ
bytes_posted false c m cid command_result bytes = bytes
bytes_posted true c m cid command_result bytes = answered m c cid command_result bytes

-- the number of a truth
abbrev pub done_number : Bool → ℤ
done_number false = pos 0
done_number true = pos 1

-- what a completion says of the command, as a program in C passes it
abbrev pub command_result_of : Answer → CommandResult
command_result_of a = record { dword0 = a.dword0; status = status_of_number a.status }
