-- Rows of conditions that may refuse a command, and the definitions that they use.
use Rattle.std.specs.Prelude.{ℕ, ◌==◌, ◌&&◌, ◌||◌, Bool, bit_and, false, nat_lt, not, Option, slice_get}
use Rattle.std.specs.Prelude.{◌*◌, ◌^◌, nat_le, List, [], ◌∷◌, if◌then◌else◌, Some, None}
use Rattle.std.specs.Option.{option_map_or}
use Rattle.std.specs.List.{find, range_with_len}
use Rattle.std.specs.FinMap as map_of
use Rattle.nv_model.specs.declared.format.Format.{Format}
use Rattle.nv_model.specs.State.{State, controller_at, ascending}
use Rattle.nv_bits.specs.Above.{above}
use Rattle.nv_command.specs.Nsid.{broadcast_nsid}
use Rattle.nv_command.specs.Refusal.{refusal_by}
use Rattle.nv_command.specs.declared.refusal.Refusal.{Refusal}
use Rattle.nv_command.specs.declared.status_code.StatusCode.{StatusCode}

-- metadata can be at the end of the blocks of a format that has some, if bit 0 of mc is 1
abbrev pub may_extend : ℕ → Format → Bool → Bool
may_extend mc format extended = not extended || (nat_lt 0 format.ms && (bit_and mc 1 == 1))

-- the format at an index
abbrev pub format_at : State → ℕ → Option Format
format_at s index = slice_get s.formats index

-- the table has the format and, if metadata is to be at the end of its logical blocks, allows that
abbrev pub can_have : State → ℕ → Bool → Bool
can_have s index extended =
    option_map_or (λ f. may_extend s.mc f extended) (format_at s index) false

-- MDTS: the greatest number of 4,096-byte pages that a controller's command transfers, as a power of two
abbrev pub mdts_of : State → ℕ → ℕ
mdts_of s c = option_map_or (λ x. x.identity.numbers.mdts) (controller_at s c) 0

-- the greatest limit, of 256 pages
abbrev pub greatest_limit : ℕ
greatest_limit = 1048576

-- the greatest length of a command's data in bytes
abbrev pub limit_of : State → ℕ → ℕ
limit_of s c = 4096 * 2 ^ mdts_of s c

-- an NSID that a namespace of the subsystem could have
abbrev pub is_valid : State → ℕ → Bool
is_valid s n = nat_le 1 n && nat_le n s.nn

-- the NSIDs that are attached to a controller, in ascending order
abbrev pub active_nsids : State → ℕ → List ℕ
active_nsids s c = option_map_or (λ x. ascending x.attached) (controller_at s c) []

-- whether an NSID is attached to controller c
abbrev pub is_active : State → ℕ → ℕ → Bool
is_active s c n = option_map_or (λ x. map_of.contains_key x.attached n) (controller_at s c) false

-- the NSIDs that a command concerns; for the broadcast NSID these are all that are active on the controller
abbrev pub concerned : State → ℕ → ℕ → List ℕ
concerned s c n = if n == broadcast_nsid then above 0 (active_nsids s c) else n ∷ []

-- an NSID with a namespace
abbrev pub is_allocated : State → ℕ → Bool
is_allocated s n = map_of.contains_key s.namespaces n

-- the least NSID without a namespace
abbrev pub free_nsid : State → Option ℕ
free_nsid s = find (λ n. not (is_allocated s n)) (range_with_len 1 s.nn)

-- a condition, and the refusal if it holds
pub record Row : Type 0 where
  pub when : Bool
  pub refusal : Refusal

-- a row whose refusal has no command specific information
abbrev pub row : Bool → StatusCode → Row
row when code = record { when = when; refusal = refusal_by code }

-- the refusal of the first row whose condition holds
abbrev pub first_refusal : List Row → Option Refusal
first_refusal [] = None
first_refusal (r ∷ rows) = if r.when then Some r.refusal else first_refusal rows
