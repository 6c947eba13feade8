-- The ranges of a list, one after another.
use Rattle.std.proofs.Common.{◌≡◌, ◌∙◌, ℕ, zero, suc, ◌<◌, true, false, List, arith, ap, inl, inr}
use Rattle.std.proofs.lemmas.Bool.{and_left, and_parts, and_right, cases_lt}
use Rattle.nv_blocks.specs.Ranges.{are_within, is_range_within, range_at}

-- if one of the first ranges isn't within a number of blocks, they aren't
pub one_outside : (blocks : ℕ) (list : List ℕ) (index n : ℕ) → index < n
    → is_range_within blocks (range_at list index) ≡ false → are_within blocks list n ≡ false
one_outside blocks list index zero below outside = absurd (omega arith)
one_outside blocks list index (suc n) below outside =
    let last = is_range_within blocks (range_at list n) in
    elim (cases_lt index n) [
      | inl before ↦ and_left (are_within blocks list n) last (one_outside blocks list index n before outside)
      | inr after ↦
          let is : n ≡ index = omega arith in
          and_right (are_within blocks list n) last
          (ap (λ k. is_range_within blocks (range_at list k)) is ∙ outside)
    ]

-- if the first ranges are within a number of blocks, each of them is
pub each_within : (blocks : ℕ) (list : List ℕ) (n index : ℕ) → are_within blocks list n ≡ true → index < n
    → is_range_within blocks (range_at list index) ≡ true
each_within blocks list zero index all below = absurd (omega arith)
each_within blocks list (suc n) index all below =
    let both = and_parts (are_within blocks list n) (is_range_within blocks (range_at list n)) all in
    elim (cases_lt index n) [
      | inl before ↦ each_within blocks list n index both.0 before
      | inr after ↦
          let is : index ≡ n = omega arith in
          ap (λ k. is_range_within blocks (range_at list k)) is ∙ both.1
    ]
