-- The counts of a schedule, and how rings and doorbells represent them.
use Rattle.nv_driver.proofs.Words.{ℕ, ◌*◌, ◌+◌, ◌-◌, ◌<◌, ◌∙◌, ◌≡◌, ◌≢◌, ◌≤◌, IsSlotBetween, Setting, ahead, ap, arith}
use Rattle.nv_driver.proofs.Words.{bank_with, between_kept, device_rings, distance, distance_kept, first_kept}
use Rattle.nv_driver.proofs.Words.{kept_below, kept_next, kept_number, nat_le, nat_lt, nat_tests, next, number, refl}
use Rattle.nv_driver.proofs.Words.{slot, slot_kept, slots_apart, sym, true, with_register_at}
use Rattle.nv_queue.proofs.NumberLaws.{distance_cases, slot_below}

-- the number of a command is below twice the depth
pub number_below : (t : Setting) (n : ℕ) → 0 < t.depth → number t n < 2 * t.depth
number_below t n p = kept_below t.depth (t.start + n) p

-- after the number of a command comes the number of the next command
pub number_next : (t : Setting) (n : ℕ) → next t.depth (number t n) ≡ number t (n + 1)
number_next t n =
    let sum : t.start + n + 1 ≡ t.start + (n + 1) = omega arith in
    kept_next t.depth (t.start + n) ∙ ap (kept_number t.depth) sum

-- the slot of a command is below the depth
pub slot_inside : (t : Setting) (n : ℕ) → 0 < t.depth → slot t n < t.depth
slot_inside t n p = slot_below t.depth (number t n) (number_below t n p)

-- commands that are fewer than a depth apart have different slots
pub slots_differ : (t : Setting) (n m : ℕ) → n < m → m < n + t.depth → slot t m ≢ slot t n
slots_differ t n m l h = λ same.
    slots_apart t.depth (t.start + m) (t.start + n) (omega arith) (omega arith)
    (sym (slot_kept t.depth (t.start + m)) ∙ same ∙ slot_kept t.depth (t.start + n))

-- the number of command m is m - n above the number of command n, if it is less than two depths ahead
pub number_above : (t : Setting) (n m : ℕ) → 0 < t.depth → n ≤ m → m < n + 2 * t.depth
    → distance t.depth (number t m) (number t n) ≡ m - n
number_above t n m p l h = distance_kept t.depth (t.start + m) (t.start + n) (m - n) p (omega arith) (omega arith)

-- commands that are fewer than a depth apart have different numbers
pub numbers_differ : (t : Setting) (n m : ℕ) → n < m → m < n + t.depth → number t n ≢ number t m
numbers_differ t n m l h = λ same.
    let far = number_above t n m (omega arith) (omega arith) (omega arith) in
    let below = number_below t n (omega arith) in
    let none : distance t.depth (number t n) (number t n) ≡ m - n =
    ap (λ x. distance t.depth x (number t n)) same ∙ far in
    grind (arith, none, distance_cases t.depth (number t n) (number t n) below below)

-- ---- doorbells

-- the tail for the commands that were sent is accepted, if fewer than a depth of them weren't executed
pub tail_rung : (t : Setting) (rung done told m : ℕ) → done ≤ m → m < done + t.depth
    → with_register_at (bank_with t (device_rings t rung done told)) 0x1000 (slot t m) ≡ bank_with t
    (device_rings t m done told)
tail_rung t rung done told m l h =
    let inside = slot_inside t m (omega arith) in
    let first = first_kept t.depth (t.start + m) (t.start + done) (m - done) (omega arith) (omega arith) in
    let is_slot : nat_lt (slot t m) t.depth ≡ true = grind (arith, nat_tests, inside) in
    rw (is_slot, first) refl

-- the head after k answers is accepted, if it comes after the head before and up to what was posted
pub head_told : (t : Setting) (rung done told k : ℕ) → told ≤ k → k ≤ done → done < told + t.depth
    → with_register_at (bank_with t (device_rings t rung done told)) 0x1004 (slot t k) ≡ bank_with t
    (device_rings t rung done k)
head_told t rung done told k l m h =
    let between : IsSlotBetween t.depth (number t told) (number t done) (slot t k) =
    between_kept t.depth (t.start + told) (k - told) (done - told) (t.start + k) (t.start + done)
    (omega arith) (omega arith) (omega arith) (omega arith) in
    let first = first_kept t.depth (t.start + k) (t.start + told) (k - told) (omega arith) (omega arith) in
    let is_slot : nat_lt (slot t k) t.depth ≡ true = grind (arith, nat_tests, between.0) in
    let is_near : nat_le (ahead t.depth (number t told) (slot t k))
    (distance t.depth (number t done) (number t told)) ≡ true =
    grind (arith, nat_tests, between.1) in
    rw (is_slot, is_near, first) refl
