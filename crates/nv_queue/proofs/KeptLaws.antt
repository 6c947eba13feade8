-- Whole numbers, and how a ring keeps them.
use Rattle.std.proofs.Common.{◌≡◌, ◌≢◌, ℕ, ◌+◌, ◌-◌, ◌*◌, ◌/◌, ◌%◌, ◌==◌, ◌<◌, ◌≤◌, ◌⊎◌, not, inl, inr, sym, ap, ◌∙◌}
use Rattle.std.proofs.Common.{arith, rules}
use Rattle.std.proofs.Math.Nat.{add-mod_right, add-mul-mod_self_left, div-add-mod, mod-add-mod, zero-mod}
use Rattle.nv_queue.specs.Numbers.{IsSlotBetween, ahead, distance, first_in_slot, kept_number, next, phase_of, slot_of}
use Rattle.nv_queue.proofs.Words.{cases_lt, mod_below}
use Rattle.nv_queue.proofs.NumberLaws.{ahead_slot, distance_cases, rest_is, slot_below, slot_cases, times_is}

-- ---- whole numbers

-- a number that is a depth further has the same slot
pub slot_again : (d n : ℕ) → slot_of d (n + d) ≡ slot_of d n
unfolding slot_of
slot_again d n = add-mod_right n d

-- a number is odd if and only if the next one is even
even_after : (q : ℕ) → (q + 1) % 2 == 0 ≡ not (q % 2 == 0)
even_after q = search rules

-- a number that is a depth further has the other phase
pub phase_again : (d n : ℕ) → 0 < d → phase_of d (n + d) ≡ not (phase_of d n)
unfolding phase_of
phase_again d n p =
    let e : n + d ≡ (n / d + 1) * d + n % d = omega (arith, div-add-mod n d) in
    let times = times_is (n + d) (n / d + 1) d (n % d) e (mod_below n d p) in
    ap (λ x. x % 2 == 0) times ∙ even_after (n / d)

-- ---- how they are kept

-- a kept number is below twice the depth
pub kept_below : (d n : ℕ) → 0 < d → kept_number d n < 2 * d
unfolding kept_number
kept_below d n h = mod_below n (2 * d) (omega arith)

-- the number 0 is kept as 0
pub kept_zero : (d : ℕ) → kept_number d 0 ≡ 0
unfolding kept_number
kept_zero d = zero-mod (2 * d)

-- the number that is j further is kept as the one that is j further modulo twice the depth
pub kept_more : (d a b j : ℕ) → a ≡ b + j → kept_number d a ≡ (kept_number d b + j) % (2 * d)
unfolding kept_number
kept_more d a b j e = ap (λ x. x % (2 * d)) e ∙ sym (mod-add-mod b (2 * d) j)

-- the next number after a kept one is the kept number of the next
pub kept_next : (d n : ℕ) → next d (kept_number d n) ≡ kept_number d (n + 1)
unfolding kept_number next
kept_next d n = mod-add-mod n (2 * d) 1

-- a number is its remainder by twice the depth and an even number of depths
whole : (d n : ℕ) → n ≡ n % (2 * d) + d * (2 * (n / (2 * d)))
whole d n = omega (arith, div-add-mod n (2 * d))

-- a kept number has the slot of the number
pub slot_kept : (d n : ℕ) → slot_of d (kept_number d n) ≡ slot_of d n
unfolding slot_of kept_number
slot_kept d n = search (rules, whole, add-mul-mod_self_left)

-- a kept number has the phase of the number
pub phase_kept : (d n : ℕ) → 0 < d → phase_of d (kept_number d n) ≡ phase_of d n
unfolding phase_of kept_number
phase_kept d n p =
    let r = n % (2 * d) in let k = n / (2 * d) in
    let e : n ≡ (r / d + 2 * k) * d + r % d =
    omega (arith, div-add-mod n (2 * d), div-add-mod r d) in
    let times = times_is n (r / d + 2 * k) d (r % d) e (mod_below r d p) in
    sym (ap (λ x. x % 2 == 0) times ∙ ap (λ x. x == 0) (add-mul-mod_self_left (r / d) 2 k))

-- the number that is j after the kept number r is r + j, or that less twice the depth
further : (d r j : ℕ) → r < 2 * d → j < 2 * d
    → ((r + j < 2 * d) × ((r + j) % (2 * d) ≡ r + j))
    ⊎ ((2 * d ≤ r + j) × ((r + j) % (2 * d) ≡ r + j - 2 * d))
further d r j h i =
    elim (cases_lt (r + j) (2 * d)) [
      | inl l ↦ inl (l, rest_is (r + j) 0 (2 * d) (r + j) (omega arith) l)
      | inr g ↦ inr (g, rest_is (r + j) 1 (2 * d) (r + j - 2 * d) (omega arith) (omega arith))
    ]

-- the number that is j after the kept number r, modulo twice the depth, is j above it
distance_further : (d r j x : ℕ) → r < 2 * d → j < 2 * d → x ≡ (r + j) % (2 * d) → x < 2 * d
    → distance d x r ≡ j
distance_further d r j x h i e l = grind (arith, further d r j h i, distance_cases d x r l h)

-- if a is j above b, and j is below twice the depth, the kept number of a is j above the kept number of b
pub distance_kept : (d a b j : ℕ) → 0 < d → a ≡ b + j → j < 2 * d
    → distance d (kept_number d a) (kept_number d b) ≡ j
distance_kept d a b j p e l = search (rules, distance_further, kept_below, kept_more)

-- numbers that are less than a depth apart have different slots
pub slots_apart : (d a b : ℕ) → b < a → a < b + d → slot_of d a ≢ slot_of d b
slots_apart d a b l h =
    let e : a ≡ b + (a - b) = omega arith in
    let far : distance d (kept_number d a) (kept_number d b) ≡ a - b =
    distance_kept d a b (a - b) (omega arith) e (omega arith) in
    let low = kept_below d b (omega arith) in
    let high = kept_below d a (omega arith) in
    λ same. let slots = slot_kept d a ∙ (same ∙ sym (slot_kept d b)) in
    apart_slots d (kept_number d a) (kept_number d b) high low (omega arith) (omega arith) slots
  where
    apart_slots : (d x r : ℕ) → x < 2 * d → r < 2 * d → 0 < distance d x r → distance d x r < d
        → slot_of d x ≡ slot_of d r → ⊥
    apart_slots d x r h i more less same =
        grind (arith, distance_cases d x r h i, slot_cases d x h, slot_cases d r i)

-- the slot of a number that is j ahead, and less than a depth, is j ahead
pub ahead_kept : (d a b j : ℕ) → a ≡ b + j → j < d
    → ahead d (kept_number d b) (slot_of d (kept_number d a)) ≡ j
ahead_kept d a b j e l =
    let is = distance_kept d a b j (omega arith) e (omega arith) in
    let low = kept_below d b (omega arith) in
    let high = kept_below d a (omega arith) in
    ahead_slot d (kept_number d a) (kept_number d b) high low (omega arith) ∙ is

-- if a is less than a depth above b, its kept number is the first in its slot from the kept number of b on
pub first_kept : (d a b j : ℕ) → a ≡ b + j → j < d
    → first_in_slot d (kept_number d b) (slot_of d (kept_number d a)) ≡ kept_number d a
unfolding first_in_slot
first_kept d a b j e l =
    ap (λ x. (kept_number d b + x) % (2 * d)) (ahead_kept d a b j e l) ∙ sym (kept_more d a b j e)

-- the slot of a number between b and c, which are less than a depth apart, lies between their kept numbers
pub between_kept : (d b j m a c : ℕ) → j ≤ m → m < d → a ≡ b + j → c ≡ b + m
    → IsSlotBetween d (kept_number d b) (kept_number d c) (slot_of d (kept_number d a))
between_kept d b j m a c l h at end =
    let near = ahead_kept d a b j at (omega arith) in
    let far = distance_kept d c b m (omega arith) end (omega arith) in
    (slot_below d (kept_number d a) (kept_below d a (omega arith)), omega arith)
