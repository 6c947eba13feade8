-- The phase tags of a completion ring's slots, by the number of the next completion.
use Rattle.std.proofs.Common.{◌≡◌, ◌≢◌, ℕ, ◌-◌, ◌*◌, ◌<◌, ◌≤◌, not, nat_lt, List}
use Rattle.std.proofs.Common.{arith, ◌⊎◌, None, Some, rules}
use Rattle.std.proofs.lemmas.Bool.Decides.{nat_tests}
use Rattle.nv_queue.specs.Numbers.{distance, next, phase_of, slot_of, tag_below}
use Rattle.nv_queue.specs.Slots.{FindsByTags, HoldsTags, IsAwaitedThere, KeepsTags, posted_as, with_completion}
use Rattle.nv_queue.specs.inner.Slots.{WritesCompletion}
use Rattle.nv_queue.proofs.Words.{cases_eq, CollectNumbers, common_steps, Cqe, IsCollectRing, PostNumbers}
use Rattle.nv_queue.proofs.NumberLaws.{distance_cases, next_below, next_cases, phase_high, phase_low, slot_below}
use Rattle.nv_queue.proofs.NumberLaws.{slot_cases, slot_high, slot_low}
use Rattle.nv_queue.proofs.SlotLaws.{not_own, put_written}

-- in the first pass, the slots below n have tag 1, and in the second pass, the slots from its slot on
tag_cases : (d n s : ℕ) → n < 2 * d
    → ((n < d) × (tag_below d n s ≡ nat_lt s n))
    ⊎ ((d ≤ n) × (tag_below d n s ≡ not (nat_lt s (n - d))))
unfolding tag_below
tag_cases d n s h = grind (arith, common_steps, slot_low, phase_low, slot_high, phase_high)

-- before number n is posted, its slot doesn't have its phase tag
pub tag_below_here : (d n : ℕ) → n < 2 * d → tag_below d n (slot_of d n) ≡ not (phase_of d n)
tag_below_here d n h = grind (arith, nat_tests, slot_cases d n h, tag_cases d n (slot_of d n) h)

-- when the next number is due, the slot of this one has its phase tag
pub tag_below_next_same : (d n : ℕ) → n < 2 * d
    → tag_below d (next d n) (slot_of d n) ≡ phase_of d n
tag_below_next_same d n h = grind (arith, common_steps, nat_tests, slot_cases, next_cases, tag_cases, next_below)

-- when the next number is due, the tag of each other slot is the same as before
pub tag_below_next_other : (d n s : ℕ) → n < 2 * d → s < d → s ≢ slot_of d n
    → tag_below d (next d n) s ≡ tag_below d n s
tag_below_next_other d n s h i o = grind (arith, common_steps, nat_tests, slot_cases, next_cases, tag_cases, next_below)

-- ---- one more completion

-- if the slots have the phase tags that are due, they have them after one more completion
pub tags_after : (old new : List ℕ) (base d n : ℕ) (c : Cqe) → n < 2 * d
    → WritesCompletion old new base d (slot_of d n) (posted_as d n c)
    → HoldsTags old base d n → HoldsTags new base d (next d n)
tags_after old new base d n c h written tags s l = search (rules, cases_eq, tag_below_next_same, tag_below_next_other)

-- a completion that is put keeps the phase tags in the state that KeepsTags says
pub keeps_tags : (old new : List ℕ) (ring : PostNumbers) (c : Cqe) → 1 < ring.depth
    → ring.posted < 2 * ring.depth → new ≡ with_completion old ring c → KeepsTags old new ring c
keeps_tags old new ring c p h written inside fits tags =
    rw written (
    tags_after old (with_completion old ring c) ring.base ring.depth ring.posted c h
    (put_written old ring c (omega arith) inside fits) tags
    )

-- ---- the awaited slot

-- the slot of a number that was posted has the tag that is due
pub tag_there : (d n k : ℕ) → n < 2 * d → k < 2 * d → distance d n k < d → n ≢ k
    → tag_below d n (slot_of d k) ≡ phase_of d k
tag_there d n k h i f o = search (rules, slot_cases, distance_cases, tag_cases)

-- if the awaited completion isn't there by its tag, collecting nothing is right
pub finds_none : (bytes : List ℕ) (ring : CollectNumbers) → IsCollectRing ring
    → ¬ IsAwaitedThere bytes ring → FindsByTags bytes ring None
finds_none bytes ring is away posted h f tags = grind (arith, common_steps, slot_below, cases_eq, tag_there)

-- if the awaited completion is there by its tag, collecting it is right
pub finds_one : (bytes : List ℕ) (ring : CollectNumbers) (c : Cqe) → IsCollectRing ring
    → IsAwaitedThere bytes ring → FindsByTags bytes ring (Some c)
finds_one bytes ring c is there posted h f tags = grind (arith, common_steps, tag_below_here, slot_below, not_own)
