-- A completion ring whose slots were zeroed.
use Rattle.std.proofs.Common.{◌≡◌, ◌∙◌, ℕ, ◌+◌, ◌-◌, ◌*◌, ◌<◌, ◌≤◌, List, ◌++◌, length, take, ap}
use Rattle.std.proofs.Common.{arith, false, length-append, length-drop, length-take, refl, sym}
use Rattle.std.specs.Prelude.{replicate}
use Rattle.std.proofs.lemmas.Bool.Decides.{nat_tests}
use Rattle.std.proofs.lemmas.List.{drop-replicate, places as item_places, replicate-append-replicate, same_lists}
use Rattle.std.proofs.lemmas.List.{take-replicate}
use Rattle.nv_host.specs.Bytes.{bytes_at, with_bytes}
use Rattle.nv_layout.specs.Cqe.{cqe_of_bytes}
use Rattle.nv_layout.specs.Parts.{number_at}
use Rattle.nv_queue.specs.Numbers.{tag_below}
use Rattle.nv_queue.specs.Slots.{HoldsTags}
use Rattle.nv_queue.proofs.Words.{bytes_at-bytes_at, bytes_at-with_same, common_steps, length-replicate}
use Rattle.nv_queue.proofs.NumberLaws.{phase_low, slot_low}

-- ---- zeros

-- each part of n zeros is zeros
zeros_at : (n a k : ℕ) → a + k ≤ n → bytes_at (replicate n 0) a k ≡ replicate k 0
unfolding bytes_at
zeros_at n a k h = ap (take k) (drop-replicate a n 0) ∙ take-replicate k (n - a) 0 (omega arith)

-- if n zeros were written, each part of them is zeros
zeroed_at : (bytes : List ℕ) (base n a k : ℕ) → base + n ≤ length bytes → a + k ≤ n
    → bytes_at (with_bytes bytes base (replicate n 0)) (base + a) k ≡ replicate k 0
zeroed_at bytes base n a k inside h =
    let len = length-replicate {A = ℕ} n 0 in
    sym (bytes_at-bytes_at (with_bytes bytes base (replicate n 0)) base n a k h)
    ∙ ap (λ part. bytes_at part a k)
    (bytes_at-with_same bytes base n (replicate n 0) (omega (arith, len)) (sym len))
    ∙ zeros_at n a k h

-- ---- tags

-- a completion of 16 zeros has phase tag 0
zero_phase : (cqe_of_bytes (replicate 16 0)).phase ≡ false
unfolding cqe_of_bytes number_at
zero_phase = refl

-- before the first completion, the tag that is due is 0 in each slot
zero_tag : (d slot : ℕ) → 0 < d → tag_below d 0 slot ≡ false
unfolding tag_below
zero_tag d slot h = grind (arith, nat_tests, slot_low d 0 h, phase_low d 0 h)

-- zeroed slots have the tags that are due if nothing was posted
pub zeroed_tags : (bytes : List ℕ) (base d : ℕ) → base + 16 * d ≤ length bytes
    → HoldsTags (with_bytes bytes base (replicate (16 * d) 0)) base d 0
zeroed_tags bytes base d inside slot below = grind (arith, common_steps, zeroed_at, zero_phase, zero_tag)

-- ---- zeros that are written one part after another

-- writing ys directly after xs writes xs ++ ys
with_more : (bytes : List ℕ) (base : ℕ) (xs ys : List ℕ) → base + length xs + length ys ≤ length bytes
    → with_bytes (with_bytes bytes base xs) (base + length xs) ys ≡ with_bytes bytes base (xs ++ ys)
unfolding with_bytes
with_more bytes base xs ys inside =
    same_lists _ _ (simp (length-append, length-take, length-drop) (omega arith)) (λ k d h. grind (arith, item_places))

-- writing no slots changes nothing
pub zeroed_none : (bytes : List ℕ) (base : ℕ) → bytes ≡ with_bytes bytes base (replicate (16 * 0) 0)
unfolding with_bytes
zeroed_none bytes base = grind (arith, common_steps)

-- after n slots were zeroed, zeroing the next one gives n + 1 zeroed slots
pub zeroed_more : (old mid new : List ℕ) (base n d at : ℕ) → base + 16 * d ≤ length old → n < d
    → at ≡ base + 16 * n → mid ≡ with_bytes old base (replicate (16 * n) 0)
    → new ≡ with_bytes mid at (replicate 16 0)
    → new ≡ with_bytes old base (replicate (16 * (n + 1)) 0)
zeroed_more old mid new base n d at inside below place before written =
    let same : 16 * n + 16 ≡ 16 * (n + 1) = omega arith in
    let zeros : List ℕ = replicate (16 * n) 0 in
    let long : length zeros ≡ 16 * n = length-replicate (16 * n) 0 in
    let behind : at ≡ base + length zeros = omega arith in
    cc (with_more old base zeros (replicate 16 0) (omega arith), replicate-append-replicate {A = ℕ} (16 * n) 16 0)
