-- The numbers of places in a ring.
use Rattle.std.proofs.Common.{◌≡◌, ℕ, ◌+◌, ◌-◌, ◌*◌, ◌<◌, ◌≤◌, Bool, true, false, not, arith, rules}
use Rattle.nv_queue.specs.Numbers.{ahead, distance, first_in_slot, next, number_of, phase_of, slot_of}
use Rattle.nv_queue.proofs.Words.{length_with_bytes}
use Rattle.nv_queue.proofs.NumberLaws.{ahead_cases, ahead_slot, full_slots, next_cases, phase_high, phase_low}
use Rattle.nv_queue.proofs.NumberLaws.{slot_high, slot_low, within_filled, within_freed, within_more, within_taken}

-- the number of a place is below twice the depth
pub number_below : (d s : ℕ) (b : Bool) → s < d → number_of d s b < 2 * d
number_below d s b h = search rules

-- the slot of a place's number is the slot of the place
pub slot_number_of : (d s : ℕ) (b : Bool) → s < d → slot_of d (number_of d s b) ≡ s
slot_number_of d s b h = search (rules, slot_high, slot_low)

-- the phase of a place's number is 1 in the first pass and 0 in the second
pub phase_number_of : (d s : ℕ) (b : Bool) → s < d → phase_of d (number_of d s b) ≡ not b
phase_number_of d s b h = search (rules, phase_high, phase_low)

-- after the last slot, the next number is in slot 0 in the other pass
pub step_wraps : (d s : ℕ) (b : Bool) → s + 1 ≡ d → number_of d 0 (not b) ≡ next d (number_of d s b)
step_wraps d s b h = search (rules, next_cases)

-- after any other slot, the next number is in the next slot in the same pass
pub step_stays : (d s : ℕ) (b : Bool) → s + 1 < d → number_of d (s + 1) b ≡ next d (number_of d s b)
step_stays d s b h = search (rules, next_cases)

-- a slot that is behind is ahead by the slots up to the end of the pass and then up to it
pub ahead_behind : (d s t : ℕ) (b : Bool) → s < d → t < s → t + d - s ≡ ahead d (number_of d s b) t
ahead_behind d s t b h e = search (rules, ahead_cases)

-- a slot that isn't behind is ahead by the difference of the slots
pub ahead_before : (d s t : ℕ) (b : Bool) → t < d → s ≤ t → t - s ≡ ahead d (number_of d s b) t
ahead_before d s t b h e = search (rules, ahead_cases)

-- the first number in a slot that is behind is its number in the other pass
pub first_behind : (d s t : ℕ) (b : Bool) → s < d → t < s
    → number_of d t (not b) ≡ first_in_slot d (number_of d s b) t
first_behind d s t true h l = grind (arith, ahead_cases d (d + s) t (omega arith) (omega arith))
first_behind d s t false h l = grind (arith, ahead_cases d s t (omega arith) (omega arith))

-- the first number in a slot that isn't behind is its number in the same pass
pub first_before : (d s t : ℕ) (b : Bool) → t < d → s ≤ t
    → number_of d t b ≡ first_in_slot d (number_of d s b) t
first_before d s t true h l = grind (arith, ahead_cases d (d + s) t (omega arith) (omega arith))
first_before d s t false h l = grind (arith, ahead_cases d s t (omega arith) (omega arith))

-- the slot of a number that is less than a depth ahead is as far ahead as the number
pub ahead_place : (d s k : ℕ) (b : Bool) → s < d → k < 2 * d → distance d (number_of d s b) k < d
    → ahead d k s ≡ distance d (number_of d s b) k
ahead_place d s k b h i f =
    rw slot_number_of at (ahead_slot d (number_of d s b) k (number_below d s b h) i f)

-- ---- for the attributes of src/

-- the slot and the phase of a place's number
pub ruleset places = (slot_number_of, phase_number_of, number_below)

-- the place of the next number, the way to a slot, and the first place with it
pub ruleset steps = (step_wraps, step_stays)

pub ruleset ways = (ahead_behind, ahead_before, ahead_place, number_below)

pub ruleset firsts = (first_behind, first_before)

-- rings whose places moved, and memory of which a slot was written
pub ruleset rings = (places, full_slots, within_more, within_taken, within_freed, within_filled, length_with_bytes)
