-- The calls of a program in C: what they return, and what they change.
use Rattle.std.specs.Prelude.{◌≡◌, ◌&&◌, ℕ, ℤ, pos, Bool, List, length, nat_lt, replicate, slice_set}
use Rattle.std.specs.Prelude.{Option, None, Some, Result, Ok, Err, ◌⊎◌, if◌then◌else◌, MatchBool}
use Rattle.nv_layout.specs.ErrorEntryBytes.{bytes_of_error_entry}
use Rattle.nv_layout.specs.declared.error_entry.ErrorEntry.{ErrorEntry}
use Rattle.nv_host.specs.Pages.{are_pages}
use Rattle.nv_register.specs.RegisterBank.{new_bank, value_at, with_register_at}
use Rattle.nv_model.specs.State.{State}
use Rattle.nv_bus.specs.Bus.{bank_at}
use Rattle.nv_bus.specs.Turn.{TakesCount, Turn}
use Rattle.nv_file.specs.declared.error.SubsystemError.{SubsystemError}
use Rattle.nv_file.specs.declared.error.SubsystemError.TheVariants as fault
use Rattle.nv_controller.specs.Machine.{MachineValue, bus_of, machine_written}
use Rattle.nv_controller.specs.Tags.{TaggedTurn}

-- ---- opening

-- the number of a fault of a subsystem file
abbrev pub number_of : SubsystemError → ℤ
number_of fault.NotToml = pos 1
number_of (fault.Missing table key) = pos 2
number_of (fault.Kind table key) = pos 3
number_of (fault.Range table key) = pos 4
number_of (fault.Repeated table key) = pos 5
number_of (fault.Unknown table) = pos 6
number_of fault.Capacity = pos 7
number_of fault.Attachment = pos 8
number_of fault.Memory = pos 9

-- the controllers of a subsystem after power on
abbrev pub machine_of : State → MachineValue
machine_of s = record { state = s; banks = replicate (length s.controllers) new_bank }

-- opening a file: 0 with the machine of its subsystem, or the number of its first fault with the handle unchanged
abbrev pub OpensFile : Result State SubsystemError → ℤ → Option MachineValue → Option MachineValue → Type 0
OpensFile (Ok s) number m m' = (number ≡ pos 0) × (m' ≡ Some (machine_of s))
OpensFile (Err e) number m m' = (number ≡ number_of e) × (m' ≡ m)

-- opening a file, if there may be too little memory
abbrev pub Opens : Result State SubsystemError → ℤ → Option MachineValue → Option MachineValue → Type 0
Opens file number m m' =
    ((number ≡ number_of fault.Memory) × (m' ≡ m)) ⊎ OpensFile file number m m'

-- ---- registers

-- there is a controller with this number
abbrev pub has : MachineValue → ℕ → Bool
has m c = nat_lt c (length m.banks)

-- the dword that is read from controller c, or all ones if there is no such controller
abbrev pub read_of : MachineValue → ℕ → ℕ → ℕ
read_of m c offset = if has m c then value_at (bank_at m.banks c) offset else 4294967295

-- a write to controller c, which changes nothing if there is no such controller
abbrev pub Written : ℕ → ℕ → ℕ → MachineValue → MachineValue → Type 0
Written c offset x m m' =
    MatchBool (has m c)
    ((m'.state ≡ machine_written m c offset x)
    × (m'.banks ≡ slice_set m.banks c (with_register_at (bank_at m.banks c) offset x)))
    (m' ≡ m)

-- ---- turns

-- a turn of controller c over a memory of these bytes, and the phase tags in the logs after it
pub record BytesTurn (page_size c most count : ℕ) (m : MachineValue) (bytes : List ℕ) (m' : MachineValue)
    (bytes' : List ℕ) : Type 0 where
  pub turn : Turn page_size c most count (bus_of m) bytes (bus_of m') bytes'
  pub tags : TaggedTurn c count m bytes m' bytes'
  pub takes : TakesCount page_size (length bytes) most (bank_at m.banks c) count
      (bank_at m'.banks c)
  pub len : length bytes' ≡ length bytes

-- such a turn, if the controller exists and the bytes are whole pages; otherwise nothing changes
abbrev pub Turned : ℕ → ℕ → ℕ → ℕ → MachineValue → List ℕ → MachineValue → List ℕ → Type 0
Turned c page_size most count m bytes m' bytes' =
    MatchBool (has m c && are_pages page_size (length bytes))
    (BytesTurn page_size c most count m bytes m' bytes')
    ((count ≡ 0) × (m' ≡ m) × (bytes' ≡ bytes))

-- ---- logs

-- an entry of a log: 1 with its bytes, or 0 with the bytes unchanged if there is no such entry
abbrev pub EntryTold : Option ErrorEntry → ℤ → List ℕ → List ℕ → Type 0
EntryTold None found old new = (found ≡ pos 0) × (new ≡ old)
EntryTold (Some e) found old new = (found ≡ pos 1) × (new ≡ bytes_of_error_entry e)
