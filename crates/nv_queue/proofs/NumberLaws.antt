-- Slots, phases and distances of numbers below twice the depth.
use Rattle.std.proofs.Common.{◌≡◌, ◌≢◌, ℕ, ◌+◌, ◌-◌, ◌*◌, ◌/◌, ◌%◌, ◌<◌, ◌≤◌, true, false, arith, inl, inr, ◌⊎◌, ◌↔◌}
use Rattle.nv_queue.specs.Numbers.{IsDepth, IsFull, IsSlotBetween, IsWithinRing, ahead, distance, first_in_slot, next}
use Rattle.nv_queue.specs.Numbers.{phase_of, slot_of}
use Rattle.nv_queue.proofs.Words.{cases_lt, common_steps, div-mul-add, mod-mul-add}

-- the remainder of q * d + r by d is r, if r is below d
pub rest_is : (x q d r : ℕ) → x ≡ q * d + r → r < d → x % d ≡ r
rest_is x q d r e h = rw e (mod-mul-add q d r h)

-- the quotient of q * d + r by d is q, if r is below d
pub times_is : (x q d r : ℕ) → x ≡ q * d + r → r < d → x / d ≡ q
times_is x q d r e h = rw e (div-mul-add q d r h)

-- ---- each function by cases

-- the slot of a number in the first pass is the number
pub slot_low : (d n : ℕ) → n < d → slot_of d n ≡ n
unfolding slot_of
slot_low d n h = rest_is n 0 d n (omega arith) h

-- the slot of a number in the second pass is the number less the depth
pub slot_high : (d n : ℕ) → d ≤ n → n < 2 * d → slot_of d n ≡ n - d
unfolding slot_of
slot_high d n h i = rest_is n 1 d (n - d) (omega arith) (omega arith)

-- the phase of a number in the first pass is 1
pub phase_low : (d n : ℕ) → n < d → phase_of d n ≡ true
unfolding phase_of
phase_low d n h = rw (times_is n 0 d n (omega arith) h)

-- the phase of a number in the second pass is 0
pub phase_high : (d n : ℕ) → d ≤ n → n < 2 * d → phase_of d n ≡ false
unfolding phase_of
phase_high d n h i = rw (times_is n 1 d (n - d) (omega arith) (omega arith))

-- n is in the first pass and its slot is n, or in the second pass and its slot is n - d
pub slot_cases : (d n : ℕ) → n < 2 * d
    → ((n < d) × (slot_of d n ≡ n) × (phase_of d n ≡ true))
    ⊎ ((d ≤ n) × (slot_of d n ≡ n - d) × (phase_of d n ≡ false))
slot_cases d n h = grind (arith, common_steps, cases_lt, slot_low, phase_low, slot_high, phase_high)

-- a slot is below the depth
pub slot_below : (d n : ℕ) → n < 2 * d → slot_of d n < d
slot_below d n h = grind (arith, slot_cases d n h)

-- the number after n is n + 1, or 0 if that is twice the depth
pub next_cases : (d n : ℕ) → n < 2 * d
    → ((n + 1 < 2 * d) × (next d n ≡ n + 1)) ⊎ ((n + 1 ≡ 2 * d) × (next d n ≡ 0))
unfolding next
next_cases d n h =
    elim (cases_lt (n + 1) (2 * d)) [
      | inl l ↦ inl (l, rest_is (n + 1) 0 (2 * d) (n + 1) (omega arith) l)
      | inr g ↦ inr (omega arith, rest_is (n + 1) 1 (2 * d) 0 (omega arith) (omega arith))
    ]

-- the next number is below twice the depth too
pub next_below : (d n : ℕ) → n < 2 * d → next d n < 2 * d
next_below d n h = grind (arith, next_cases d n h)

-- a is above b by their difference, to which twice the depth is added if a is the lower number
pub distance_cases : (d a b : ℕ) → a < 2 * d → b < 2 * d
    → ((b ≤ a) × (distance d a b ≡ a - b)) ⊎ ((a < b) × (distance d a b ≡ a + 2 * d - b))
unfolding distance
distance_cases d a b h i =
    elim (cases_lt a b) [
      | inl l ↦
          let far = a + 2 * d - b in
          inr (l, rest_is far 0 (2 * d) far (omega arith) (omega arith))
      | inr g ↦ inl (g, rest_is (a + 2 * d - b) 1 (2 * d) (a - b) (omega arith) (omega arith))
    ]

-- slot t is as far ahead of n as the remainder of t + 2 * d - n by the depth
ahead_is : (d n t k q : ℕ) → t + 2 * d - n ≡ q * d + k → k < d → ahead d n t ≡ k
unfolding ahead
ahead_is d n t k q e h = rest_is (t + 2 * d - n) q d k e h

-- slot t is ahead of n by t - n, t + d - n or t + 2 * d - n, and the first number in it is t or t + d
pub ahead_cases : (d n t : ℕ) → n < 2 * d → t < d
    → ((n ≤ t) × (ahead d n t ≡ t - n) × (first_in_slot d n t ≡ t))
    ⊎ (((t < n) × (n ≤ t + d) × (ahead d n t ≡ t + d - n) × (first_in_slot d n t ≡ t + d))
    ⊎ ((t + d < n) × (ahead d n t ≡ t + 2 * d - n) × (first_in_slot d n t ≡ t)))
unfolding first_in_slot
ahead_cases d n t h i =
    elim (cases_lt t n) [
      | inr g ↦
          let e = ahead_is d n t (t - n) 2 (omega arith) (omega arith) in
          inl (g, e, rw e (rest_is (n + (t - n)) 0 (2 * d) t (omega arith) (omega arith)))
      | inl l ↦ elim (cases_lt (t + d) n) [
        | inr m ↦
            let e = ahead_is d n t (t + d - n) 1 (omega arith) (omega arith) in
            let n2 = n + (t + d - n) in
            inr (inl (l, m, e, rw e (rest_is n2 0 (2 * d) (t + d) (omega arith) (omega arith))))
        | inl m ↦
            let e = ahead_is d n t (t + 2 * d - n) 0 (omega arith) (omega arith) in
            let n2 = n + (t + 2 * d - n) in
            inr (inr (m, e, rw e (rest_is n2 1 (2 * d) t (omega arith) (omega arith))))
      ]
    ]

-- each slot is less than a depth ahead
pub ahead_below : (d n t : ℕ) → n < 2 * d → t < d → ahead d n t < d
ahead_below d n t h i = grind (arith, ahead_cases d n t h i)

-- the first number in a slot is below twice the depth
pub first_in_slot_below : (d n t : ℕ) → n < 2 * d → t < d → first_in_slot d n t < 2 * d
first_in_slot_below d n t h i = grind (arith, ahead_cases d n t h i)

-- ---- how far numbers are apart

-- the number after n is one further above k than n is
pub distance_next : (d n k : ℕ) → n < 2 * d → k < 2 * d → distance d n k + 1 < 2 * d
    → distance d (next d n) k ≡ distance d n k + 1
distance_next d n k h i l = grind (arith, common_steps, next_cases, distance_cases, next_below)

-- n is one less far above the number after k than above k
pub distance_after_next : (d n k : ℕ) → n < 2 * d → k < 2 * d → k ≢ n
    → distance d n (next d k) ≡ distance d n k - 1
distance_after_next d n k h i o = grind (arith, common_steps, next_cases, distance_cases, next_below)

-- a number that is 0 above another is that number
pub distance_none : (d n k : ℕ) → n < 2 * d → k < 2 * d → distance d n k ≡ 0 → k ≡ n
distance_none d n k h i e = grind (arith, distance_cases d n k h i)

-- the slot of a number less than a depth above is as far ahead as that number
pub ahead_slot : (d a b : ℕ) → a < 2 * d → b < 2 * d → distance d a b < d
    → ahead d b (slot_of d a) ≡ distance d a b
ahead_slot d a b h i f = grind (arith, common_steps, slot_cases, distance_cases, ahead_cases, slot_below)

-- the first number in a slot is as far above n as the slot is ahead of it
pub distance_first : (d n t : ℕ) → n < 2 * d → t < d → distance d (first_in_slot d n t) n ≡ ahead d n t
distance_first d n t h i = grind (arith, common_steps, ahead_cases, distance_cases, first_in_slot_below)

-- a is less far above the first number in slot t from n on than above n, by as much as the slot is ahead
pub distance_after_first : (d a n t : ℕ) → a < 2 * d → n < 2 * d → t < d → ahead d n t ≤ distance d a n
    → distance d a (first_in_slot d n t) ≡ distance d a n - ahead d n t
distance_after_first d a n t j h i g = grind (arith, common_steps, ahead_cases, distance_cases, first_in_slot_below)

-- ---- the numbers of a ring

-- a new ring, with both numbers 0, is within its depth
pub within_new : (d : ℕ) → IsDepth d → IsWithinRing d 0 0
within_new d deep = grind (arith, common_steps, distance_cases)

-- a ring that isn't full is still within its depth after one number more
pub within_more : (d k n : ℕ) → IsWithinRing d k n → ¬ IsFull d k n → IsWithinRing d k (next d n)
within_more d k n is free = grind (arith, common_steps, distance_next, next_below)

-- a ring that isn't empty is still within its depth after one number was taken from it
pub within_taken : (d k n : ℕ) → IsWithinRing d k n → k ≢ n → IsWithinRing d (next d k) n
within_taken d k n is left = grind (arith, common_steps, distance_after_next, next_below)

-- a ring is still within its depth if its first number becomes the first one in a slot between its numbers
pub within_freed : (d k n t : ℕ) → IsWithinRing d k n → IsSlotBetween d k n t
    → IsWithinRing d (first_in_slot d k t) n
within_freed d k n t is slot = grind (arith, common_steps, distance_after_first, first_in_slot_below)

-- a ring is within its depth if its last number becomes the first one in any slot
pub within_filled : (d k n t : ℕ) → IsWithinRing d k n → t < d
    → IsWithinRing d k (first_in_slot d k t)
within_filled d k n t is low = grind (arith, common_steps, distance_first, ahead_below, first_in_slot_below)

-- a ring is full if and only if the slot after the last one is the first one's
pub full_slots : (d k n : ℕ) → IsWithinRing d k n
    → (slot_of d (next d n) ≡ slot_of d k) ↔ IsFull d k n
full_slots d k n is = grind (arith, common_steps, slot_cases, distance_cases, next_cases, next_below)

-- a ring is empty if and only if both slots are equal
pub empty_slots : (d k n : ℕ) → IsWithinRing d k n → (slot_of d k ≡ slot_of d n) ↔ (k ≡ n)
empty_slots d k n is = grind (arith, common_steps, slot_cases, distance_cases)
