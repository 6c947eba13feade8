-- Submissions and completions are numbered from 0, since their rings were created or renewed. A
-- ring keeps a number modulo twice its depth. This determines the number's slot and phase tag, and
-- how far two numbers are apart that differ by less than twice the depth.
use Rattle.std.specs.Prelude.{◌≡◌, ℕ, ◌+◌, ◌-◌, ◌*◌, ◌/◌, ◌%◌, ◌==◌, ◌<◌, ◌≤◌, Bool, if◌then◌else◌, nat_lt, not}

-- the number of slots that a ring can have
abbrev pub IsDepth : ℕ → Type 0
IsDepth depth = (1 < depth) × (depth ≤ 4096)

-- what a ring keeps of number n
unfoldable pub kept_number : ℕ → ℕ → ℕ
kept_number depth n = n % (2 * depth)

-- the slot of number n
unfoldable pub slot_of : ℕ → ℕ → ℕ
slot_of depth n = n % depth

-- whether completion n has phase tag 1
unfoldable pub phase_of : ℕ → ℕ → Bool
phase_of depth n = (n / depth) % 2 == 0

-- the number after n
unfoldable pub next : ℕ → ℕ → ℕ
next depth n = (n + 1) % (2 * depth)

-- the number of a slot in the first or the second pass
abbrev pub number_of : ℕ → ℕ → Bool → ℕ
number_of depth slot second = if second then depth + slot else slot

-- how far number a is above number b
unfoldable pub distance : ℕ → ℕ → ℕ → ℕ
distance depth a b = (a + 2 * depth - b) % (2 * depth)

-- how far the first number in slot t is above number n
unfoldable pub ahead : ℕ → ℕ → ℕ → ℕ
ahead depth n t = (t + 2 * depth - n) % depth

-- the first number from n on in slot t
unfoldable pub first_in_slot : ℕ → ℕ → ℕ → ℕ
first_in_slot depth n t = (n + ahead depth n t) % (2 * depth)

-- slot t is that of a number from `low` to `high`
abbrev pub IsSlotBetween : ℕ → ℕ → ℕ → ℕ → Type 0
IsSlotBetween depth low high t = (t < depth) × (ahead depth low t ≤ distance depth high low)

-- the numbers from `low` to `high` are fewer than the slots
pub record IsWithinRing (depth low high : ℕ) : Type 0 where
  pub deep : IsDepth depth
  pub from : low < 2 * depth
  pub to : high < 2 * depth
  pub few : distance depth high low < depth

-- all slots but one are in use
abbrev pub IsFull : ℕ → ℕ → ℕ → Type 0
IsFull depth low high = distance depth high low ≡ depth - 1

-- the phase tag of a slot when the numbers below n were posted: that of the greatest of them in
-- this slot, or 0
unfoldable pub tag_below : ℕ → ℕ → ℕ → Bool
tag_below depth n slot =
    if nat_lt slot (slot_of depth n) then phase_of depth n else not (phase_of depth n)
