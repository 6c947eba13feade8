-- The entries of a controller's admin queue that the caller answers in its place.
use Rattle.std.specs.Prelude.{ℕ, ◌==◌, ◌&&◌, Bool, true, false, List, length, Option, None, Some, slice_set}
use Rattle.std.specs.Prelude.{if◌then◌else◌}
use Rattle.nv_layout.specs.declared.cqe.Cqe.{Cqe}
use Rattle.nv_layout.specs.declared.sqe.Sqe.{Sqe}
use Rattle.nv_queue.specs.Numbers.{slot_of}
use Rattle.nv_controller.specs.Pairs.{can_complete, next_entry}
use Rattle.nv_queue.specs.Rings.{fetched_one, posted_one}
use Rattle.nv_queue.specs.Slots.{with_completion}
use Rattle.nv_register.specs.Readiness.{with_rings}
use Rattle.nv_register.specs.declared.readiness.Readiness.{Readiness}
use Rattle.nv_register.specs.declared.readiness.Readiness.TheVariants.{Off, Failed, Ready}
use Rattle.nv_register.specs.declared.register_bank.RegisterBank.{RegisterBank}
use Rattle.nv_register.specs.declared.rings.Rings.{Rings}
use Rattle.nv_bus.specs.Bus.{bank_at}
use Rattle.nv_bus.specs.Entry.{completion_of}
use Rattle.nv_bus.specs.declared.command_result.CommandResult.{CommandResult}
use Rattle.nv_controller.specs.Machine.{MachineValue}

-- ---- rings

-- the entry that is taken next over a memory with this page size
abbrev pub rings_entry : Rings → ℕ → List ℕ → Option Sqe
rings_entry rings page_size bytes =
    if page_size == rings.page_size then next_entry rings.submission rings.completion bytes else None

-- the rings after that entry was taken
abbrev pub rings_fetched : Rings → Rings
rings_fetched rings = record rings { submission = fetched_one rings.submission }

-- a completion can be posted to a memory with this page size and length
abbrev pub rings_can_post : Rings → ℕ → ℕ → Bool
rings_can_post rings page_size size = (page_size == rings.page_size) && can_complete rings.completion size

-- the rings after a completion was posted
abbrev pub rings_posted : Rings → Rings
rings_posted rings = record rings { completion = posted_one rings.completion }

-- the bytes after a completion with this command identifier was posted, which has the head of the submission queue
abbrev pub rings_answered : Rings → ℕ → CommandResult → List ℕ → List ℕ
rings_answered rings cid command_result bytes =
    with_completion bytes rings.completion
    (completion_of cid (slot_of rings.submission.depth rings.submission.fetched) command_result)

-- the rings after an entry was taken and completed
abbrev pub rings_completed : Rings → Rings
rings_completed rings = rings_posted (rings_fetched rings)

-- ---- a controller, which must be ready and have no fatal status

-- the entry that it takes next
abbrev pub entry_by : Readiness → ℕ → List ℕ → Option Sqe
entry_by Off page_size bytes = None
entry_by Failed page_size bytes = None
entry_by (Ready rings true) page_size bytes = None
entry_by (Ready rings false) page_size bytes = rings_entry rings page_size bytes

-- it can post a completion
abbrev pub can_post_by : Readiness → ℕ → ℕ → Bool
can_post_by Off page_size size = false
can_post_by Failed page_size size = false
can_post_by (Ready rings true) page_size size = false
can_post_by (Ready rings false) page_size size = rings_can_post rings page_size size

-- the bytes after it posted one
abbrev pub answered_by : Readiness → ℕ → CommandResult → List ℕ → List ℕ
answered_by Off cid command_result bytes = bytes
answered_by Failed cid command_result bytes = bytes
answered_by (Ready rings fatal) cid command_result bytes = rings_answered rings cid command_result bytes

-- the bytes after it took this entry and posted its completion
abbrev pub completed_by : Readiness → CommandResult → List ℕ → Sqe → List ℕ
completed_by readiness command_result bytes entry =
    answered_by (with_rings rings_fetched readiness) entry.cid command_result bytes

-- its registers after its rings changed
abbrev pub with_rings_changed : (Rings → Rings) → RegisterBank → RegisterBank
with_rings_changed change bank = record bank { readiness = with_rings change bank.readiness }

-- ---- a machine

-- the entry that controller c takes next
abbrev pub entry_of : MachineValue → ℕ → ℕ → List ℕ → Option Sqe
entry_of m c page_size bytes = entry_by (bank_at m.banks c).readiness page_size bytes

-- controller c can post a completion
abbrev pub can_post : MachineValue → ℕ → ℕ → ℕ → Bool
can_post m c page_size size = can_post_by (bank_at m.banks c).readiness page_size size

-- the machine after the rings of controller c changed, and nothing else
abbrev pub with_rings_of : ℕ → (Rings → Rings) → MachineValue → MachineValue
with_rings_of c change m =
    record m { banks = slice_set m.banks c (with_rings_changed change (bank_at m.banks c)) }

-- the bytes after controller c took this entry and posted its completion
abbrev pub completed : MachineValue → ℕ → CommandResult → List ℕ → Sqe → List ℕ
completed m c command_result bytes entry = completed_by (bank_at m.banks c).readiness command_result bytes entry

-- the bytes after controller c posted a completion
abbrev pub answered : MachineValue → ℕ → ℕ → CommandResult → List ℕ → List ℕ
answered m c cid command_result bytes = answered_by (bank_at m.banks c).readiness cid command_result bytes
