-- The contents of a ring's slots as entries are written.
use Rattle.std.proofs.Common.{◌≡◌, ◌≢◌, ℕ, ◌+◌, ◌-◌, ◌*◌, ◌<◌, ◌≤◌, inl, inr, Bool, not, List, [], ◌∷◌, ◌++◌, length}
use Rattle.std.proofs.Common.{slice_index_or, None, Some, ◌↔◌, ap, ◌∙◌, arith, rules}
use Rattle.std.proofs.lemmas.List.{get_or_push}
use Rattle.std.proofs.Math.Nat.{mul-le-mul_left}
use Rattle.nv_host.specs.Bytes.{bytes_at, with_bytes}
use Rattle.nv_layout.specs.Sqe.{SqeFits}
use Rattle.nv_layout.specs.declared.sqe.Sqe.{Sqe}
use Rattle.nv_layout.proofs.RecordLaws.{cqe_back, length-bytes_of_cqe, length-bytes_of_sqe, sqe_back}
use Rattle.nv_queue.specs.Numbers.{kept_number, phase_of, slot_of}
use Rattle.nv_queue.specs.Slots.{CollectsPosted, HoldsOneMore, HoldsPosted, IsAwaitedThere, awaited_completion}
use Rattle.nv_queue.specs.Slots.{completion_at, posted_as, put_as, with_completion, with_submission}
use Rattle.nv_queue.specs.inner.Slots.{WritesCompletion, WritesSubmission}
use Rattle.nv_queue.proofs.Words.{bytes_at-with_after, bytes_at-with_before, bytes_at-with_same, bytes_of_cqe, cases_lt}
use Rattle.nv_queue.proofs.Words.{CollectNumbers, common_steps, Cqe, CqeFits, IsCollectRing, length-with_bytes}
use Rattle.nv_queue.proofs.Words.{length_push, mod_below, PostNumbers, SubmitNumbers}
use Rattle.nv_queue.proofs.NumberLaws.{phase_low, slot_low}
use Rattle.nv_queue.proofs.KeptLaws.{phase_again, phase_kept, slot_again, slot_kept, slots_apart}

-- ---- the awaited slot

-- if b is the negation of a, then a is the negation of b
turned_back : (a b : Bool) → b ≡ not a → a ≡ not b
turned_back a b e = grind arith

-- a truth value that is the negation of another isn't equal to it
pub not_own : (a b : Bool) → a ≡ not b → a ≢ b
not_own a b e = λ same. grind arith

-- the slot of a completion that was posted less than a depth ago has the phase tag of its number
pub posted_tag : (bytes : List ℕ) (base d : ℕ) (posted : List Cqe) (k : ℕ)
    → HoldsPosted bytes base d posted → k < length posted → length posted ≤ k + d
    → (completion_at bytes base (slot_of d k)).phase ≡ phase_of d k
posted_tag bytes base d posted k holds l h =
    let c = completion_at bytes base (slot_of d k) in
    ap (λ x. x.phase) (holds.standing k c l h) ∙ holds.phases k c l

-- the slot of the next completion has the opposite of the phase tag that it gets
awaited_tag : (bytes : List ℕ) (base d : ℕ) (posted : List Cqe) (k : ℕ) → 0 < d
    → HoldsPosted bytes base d posted → k ≡ length posted
    → (completion_at bytes base (slot_of d k)).phase ≡ not (phase_of d k)
awaited_tag bytes base d posted k p holds e =
    elim (cases_lt k d) [
      | inl l ↦ rw (slot_low d k l, phase_low d k l) (holds.blank k (omega arith) l)
      | inr g ↦
          let n = k - d in
          let back : k ≡ n + d = omega arith in
          let there = posted_tag bytes base d posted n holds (omega arith) (omega arith) in
          let slots : slot_of d k ≡ slot_of d n = ap (slot_of d) back ∙ slot_again d n in
          let turned = ap (phase_of d) back ∙ phase_again d n p in
          ap (λ s. (completion_at bytes base s).phase) slots
          ∙ (there ∙ turned_back (phase_of d n) (phase_of d k) turned)
    ]

-- the slot of a number that was not posted doesn't have its phase tag
pub not_posted : (bytes : List ℕ) (base d : ℕ) (posted : List Cqe) (k : ℕ) → 0 < d
    → HoldsPosted bytes base d posted → k ≡ length posted
    → (completion_at bytes base (slot_of d k)).phase ≢ phase_of d k
not_posted bytes base d posted k p holds e = search (rules, awaited_tag)

-- ---- one slot is written

-- a slot is below the depth
pub slot_within : (d n : ℕ) → 0 < d → slot_of d n < d
unfolding slot_of
slot_within d n p = mod_below n d p

-- writing slot t, of `size` bytes, keeps the bytes of every other slot
pub other_slot : (bytes : List ℕ) (base size d s t : ℕ) (written : List ℕ)
    → base + size * d ≤ length bytes → length written ≡ size → s < d → t < d → s ≢ t
    → bytes_at (with_bytes bytes (base + size * t) written) (base + size * s) size
    ≡ bytes_at bytes (base + size * s) size
other_slot bytes base size d s t written inside len h i apart =
    let at = base + size * t in
    let under : t + 1 ≤ d = omega arith in
    let ends = mul-le-mul_left size under in
    elim (cases_lt s t) [
      | inl l ↦
          let before : s + 1 ≤ t = omega arith in
          let near = mul-le-mul_left size before in
          bytes_at-with_before bytes at written (base + size * s) size (omega arith) (omega arith)
      | inr g ↦
          let after : t + 1 ≤ s = omega (arith, apart) in
          let near = mul-le-mul_left size after in
          let top : s + 1 ≤ d = omega arith in
          let room = mul-le-mul_left size top in
          bytes_at-with_after bytes at written (base + size * s) size (omega arith) (omega arith)
    ]

-- a completion that is written to the bytes of slot t is in that slot, and the other slots don't change
pub completion_written : (bytes : List ℕ) (base d t : ℕ) (c : Cqe) → base + 16 * d ≤ length bytes
    → t < d → CqeFits c
    → WritesCompletion bytes (with_bytes bytes (base + 16 * t) (bytes_of_cqe c)) base d t c
completion_written bytes base d t c inside h fits =
    grind (arith, common_steps, length-bytes_of_cqe, bytes_at-with_same, cqe_back, other_slot)

-- a completion that is put is in the slot of its number with its phase tag, and the other slots don't change
pub put_written : (bytes : List ℕ) (ring : PostNumbers) (c : Cqe) → 0 < ring.depth
    → ring.base + 16 * ring.depth ≤ length bytes → CqeFits c
    → WritesCompletion bytes (with_completion bytes ring c) ring.base ring.depth
    (slot_of ring.depth ring.posted) (put_as ring c)
put_written bytes ring c p inside fits = search (rules, completion_written, slot_within)

-- a memory keeps its length when a completion is put
pub length-with_completion : (bytes : List ℕ) (ring : PostNumbers) (c : Cqe) → 0 < ring.depth
    → ring.base + 16 * ring.depth ≤ length bytes
    → length (with_completion bytes ring c) ≡ length bytes
length-with_completion bytes ring c p inside = search (rules, slot_within, length-bytes_of_cqe, length-with_bytes)

-- ---- a submission

-- a memory keeps its length when a submission is written
pub length-with_submission : (bytes : List ℕ) (ring : SubmitNumbers) (c : Sqe) → 0 < ring.depth
    → ring.base + 64 * ring.depth ≤ length bytes
    → length (with_submission bytes ring c) ≡ length bytes
length-with_submission bytes ring c p inside = search (rules, slot_within, length-bytes_of_sqe, length-with_bytes)

-- a submission that is written is in its slot, and the other slots don't change
pub push_written : (bytes : List ℕ) (ring : SubmitNumbers) (c : Sqe) → 0 < ring.depth
    → ring.base + 64 * ring.depth ≤ length bytes → SqeFits c
    → WritesSubmission bytes (with_submission bytes ring c) ring.base ring.depth
    (slot_of ring.depth ring.submitted) c
push_written bytes ring c p inside fits =
    grind (arith, common_steps, slot_within, length-bytes_of_sqe, bytes_at-with_same, sqe_back, other_slot)

-- ---- one more completion

-- if the slots hold what was posted, they hold it with one more completion after that is written with its tag
pub holds_after : (old new : List ℕ) (base d : ℕ) (posted : List Cqe) (c : Cqe) → 0 < d
    → WritesCompletion old new base d (slot_of d (length posted)) (posted_as d (length posted) c)
    → HoldsPosted old base d posted
    → HoldsPosted new base d (posted ++ posted_as d (length posted) c ∷ [])
holds_after old new base d posted c p written holds =
    grind (arith, common_steps, length_push, cases_lt, get_or_push, slots_apart, slot_within, slot_low)

-- ---- the calls

-- a completion that is put keeps the slots in the state that HoldsOneMore says
pub holds_one_more : (old new : List ℕ) (ring : PostNumbers) (c : Cqe) → 1 < ring.depth
    → new ≡ with_completion old ring c → HoldsOneMore old new ring c
holds_one_more old new ring c p is posted number inside fits holds =
    grind (arith, common_steps, slot_kept, phase_kept, put_written, holds_after)

-- the awaited completion is there if and only if completion k was posted
pub awaited_posted : (bytes : List ℕ) (ring : CollectNumbers) (posted : List Cqe) (k : ℕ)
    → 1 < ring.depth
    → ring.collected ≡ kept_number ring.depth k → k ≤ length posted → length posted ≤ k + ring.depth
    → HoldsPosted bytes ring.base ring.depth posted
    → IsAwaitedThere bytes ring ↔ (k < length posted)
awaited_posted bytes ring posted k p number l h holds =
    grind (arith, common_steps, slot_kept, phase_kept, cases_lt, not_posted, posted_tag)

-- if completion k was posted, the awaited completion is that one
pub awaited_stands : (bytes : List ℕ) (ring : CollectNumbers) (posted : List Cqe) (k : ℕ)
    (other : Cqe)
    → 1 < ring.depth → ring.collected ≡ kept_number ring.depth k → k < length posted
    → length posted ≤ k + ring.depth → HoldsPosted bytes ring.base ring.depth posted
    → awaited_completion bytes ring ≡ slice_index_or posted k other
awaited_stands bytes ring posted k other p number l h holds = search (rules, slot_kept)

-- if the awaited completion isn't there, it was not posted, and collecting nothing is right
pub collects_none : (bytes : List ℕ) (ring : CollectNumbers) → IsCollectRing ring
    → ¬ IsAwaitedThere bytes ring → CollectsPosted bytes ring None
collects_none bytes ring is away posted k number l h holds = search (rules, awaited_posted)

-- if the awaited completion is there, it is the one that was posted next, and collecting it is right
pub collects_one : (bytes : List ℕ) (ring : CollectNumbers) (c : Cqe) → IsCollectRing ring
    → IsAwaitedThere bytes ring → c ≡ awaited_completion bytes ring
    → CollectsPosted bytes ring (Some c)
collects_one bytes ring c is there value posted k number l h holds = search (rules, awaited_posted, awaited_stands)
