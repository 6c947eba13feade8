-- Laws of bits in words that are written.
use Rattle.std.proofs.Common.{◌≡◌, ◌≢◌, ◌∙◌, ℕ, ◌+◌, ◌-◌, ◌*◌, ◌/◌, ◌%◌, ◌^◌, ◌<◌, ◌≤◌, ◌==◌, true}
use Rattle.std.proofs.Common.{false, not, List, length, get_or, set, w64, refl, arith, inl, inr}
use Rattle.std.proofs.Common.{get_or-set_same, get_or-set_other, bit_and, bit_or, replicate}
use Rattle.std.proofs.lemmas.Grind.{common_steps}
use Rattle.std.proofs.lemmas.Bool.{cases_eq, cases_lt}
use Rattle.std.proofs.Math.Nat.{div-div-eq-div-mul, div-le_self, div-one, pow-zero}
use Rattle.std.proofs.lemmas.Bool.Decides.{nat_tests}
use Rattle.std.proofs.lemmas.Grind.{get_or_default_zero}
use Rattle.std.proofs.lemmas.Nat.{one_shl, pow-add, pow_pos}
use Rattle.std.proofs.lemmas.Nat.Bits.{and_pow, bit_at-lt, bit_at-trailing_zeros, bit_at-zero, bit_at_above, bit_at_ones}
use Rattle.std.proofs.lemmas.Nat.Bits.{bit_at_clear_other, bit_at_clear_same, bit_at_ones_above, bit_at_set_other, bit_at_set_same}
use Rattle.std.proofs.lemmas.List.{get_or-replicate, get_or_past, length-replicate}
use Rattle.std.specs.Int.{bit_at, bit_not, trailing_zeros}
use Rattle.nv_bits.specs.inner.Words.{ChangesBit, IsLeastFrom}
use Rattle.nv_bits.specs.Words.{bit_of}

-- writing a word that differs only in bit k changes only bit k
changed : (words : List ℕ) (k w b : ℕ) → k / 64 < length words → bit_at w (k % 64) ≡ b
    → ((i : ℕ) → i < 64 → i ≢ k % 64 → bit_at w i ≡ bit_at (get_or words (k / 64) 0) i)
    → ChangesBit words (set words (k / 64) w) k (b == 1)
unfolding bit_of
changed words k w b h here others j = grind (arith, common_steps)

-- the word of bit k, with a 1 at its place by "or", sets bit k and changes no other bit
pub bit_of-or : (words : List ℕ) (k : ℕ) → k / 64 < length words
    → ChangesBit words (set words (k / 64) (bit_or (get_or words (k / 64) 0) (1 * 2 ^ (k % 64) % 2 ^ 64))) k true
bit_of-or words k h =
    let within : k % 64 < 64 = omega arith in
    changed words k _ 1 h (bit_at_set_same w64 _ (k % 64) within)
    (λ i _ ne. bit_at_set_other w64 _ (k % 64) within i ne)

-- the word of bit k, with a 0 at its place by "and not", clears bit k and changes no other bit
pub bit_of-and_not : (words : List ℕ) (k : ℕ) → k / 64 < length words
    → ChangesBit words
    (set words (k / 64) (bit_and (get_or words (k / 64) 0) (bit_not w64 (1 * 2 ^ (k % 64) % 2 ^ 64)))) k false
bit_of-and_not words k h =
    let within : k % 64 < 64 = omega arith in
    changed words k _ 0 h (bit_at_clear_same w64 _ (k % 64) within)
    (λ i small ne. bit_at_clear_other w64 _ (k % 64) within i small ne)

-- the "and" of a word with one bit is 0 if and only if that bit isn't set
pub bit_clear : (words : List ℕ) (k w : ℕ) → w ≡ get_or words (k / 64) w → k / 64 < length words
    → (bit_and w (1 * 2 ^ (k % 64) % 2 ^ 64) == 0) ≡ not (bit_of words k)
unfolding bit_of
bit_clear words k w is h =
    rw (is ∙ get_or_default_zero words (k / 64) w h, one_shl (k % 64) 64 (omega arith), and_pow)
    (grind (arith, nat_tests, pow_pos (k % 64), bit_at-lt))

-- bit j of n without its lowest s bits is bit s + j of n
bit_at-shr : (n s j : ℕ) → bit_at (n / 2 ^ s) j ≡ bit_at n (s + j)
bit_at-shr n s j = rw (pow-add 2 s j, ← div-div-eq-div-mul n (2 ^ s) (2 ^ j)) refl

-- bit s + j of word i is bit j of the word without its lowest s bits
pub bit_of-shr : (words : List ℕ) (i s j : ℕ) → s + j < 64
    → bit_of words (64 * i + (s + j)) ≡ (bit_at (get_or words i 0 / 2 ^ s) j == 1)
unfolding bit_of
bit_of-shr words i s j h = grind (arith, common_steps, bit_at-shr)

-- in a word that is 0 from bit s on, no bit from s on is set
pub none_in_word : (words : List ℕ) (i s k : ℕ) → get_or words i 0 / 2 ^ s ≡ 0 → 64 * i + s ≤ k → k < 64 * i + 64
    → bit_of words k ≡ false
none_in_word words i s k zero from to =
    let is : k ≡ 64 * i + (s + (k - (64 * i + s))) = omega arith in
    let j = k - (64 * i + s) in
    rw is (bit_of-shr words i s j (omega arith) ∙ rw (zero, bit_at-zero j) refl)

-- in a word that is 0, no bit is set
pub none_of_zero : (words : List ℕ) (k : ℕ) → get_or words (k / 64) 0 ≡ 0 → bit_of words k ≡ false
unfolding bit_of
none_of_zero words k zero = rw (zero, bit_at-zero (k % 64)) refl

-- the number of zeros at the end of a word's rest from bit s on gives the least bit that is set from s on
pub least_in_word : (words : List ℕ) (i s : ℕ) → s < 64 → get_or words i 0 < 2 ^ 64 → 0 < get_or words i 0 / 2 ^ s
    → (s + trailing_zeros w64 (get_or words i 0 / 2 ^ s) < 64)
    × IsLeastFrom (bit_of words) (64 * i + s) (64 * i + (s + trailing_zeros w64 (get_or words i 0 / 2 ^ s)))
least_in_word words i s small fits some =
    let rest = get_or words i 0 / 2 ^ s in
    let t = trailing_zeros w64 rest in
    let lowest = bit_at-trailing_zeros w64 rest some (omega (arith, div-le_self (get_or words i 0) (2 ^ s))) in
    let inside : s + t < 64 =
    elim (cases_lt (s + t) 64) [
      | inl h ↦ h
      | inr h ↦ absurd
          (omega (
            arith,
            bit_at-shr (get_or words i 0) s t,
            bit_at_above (get_or words i 0) 64 (s + t) fits h,
            lowest.1,
          ))
    ] in (
      inside,
      record {
        from = omega arith;
        passes = bit_of-shr words i s t inside ∙ rw lowest.1 refl;
        before = λ q a b.
            let is : q ≡ 64 * i + (s + (q - (64 * i + s))) = omega arith in
            rw is (bit_of-shr words i s (q - (64 * i + s)) (omega arith)
            ∙ rw (lowest.2 (q - (64 * i + s)) (omega arith)) refl);
      },
    )

-- the lowest bit from `at` on of the word in which the search begins is the least bit from `at` on
pub first_found : (words : List ℕ) (at : ℕ) → get_or words (at / 64) 0 < 2 ^ 64
    → 0 < get_or words (at / 64) 0 / 2 ^ (at % 64)
    → (trailing_zeros w64 (get_or words (at / 64) 0 / 2 ^ (at % 64)) < 64)
    × IsLeastFrom (bit_of words) at (at + trailing_zeros w64 (get_or words (at / 64) 0 / 2 ^ (at % 64)))
first_found words at fits some = grind (arith, common_steps, least_in_word)

-- no bit from one on is set before word i, if none is set in its own word and all words between are 0
none_before : (words : List ℕ) (at i : ℕ) → get_or words (at / 64) 0 / 2 ^ (at % 64) ≡ 0
    → ((k : ℕ) → at / 64 + 1 ≤ k → k < i → get_or words k 0 ≡ 0) → (q : ℕ) → at ≤ q → q < 64 * i
    → bit_of words q ≡ false
none_before words at i here between q from to = grind (arith, common_steps, cases_lt, none_of_zero, none_in_word)

-- past the words, no bit is set
pub none_past : (words : List ℕ) (k : ℕ) → length words ≤ k / 64 → bit_of words k ≡ false
none_past words k past = none_of_zero words k (get_or_past words (k / 64) 0 past)

-- nothing is found if all later words are 0 too
pub none_found : (words : List ℕ) (at i : ℕ) → i ≡ length words → get_or words (at / 64) 0 / 2 ^ (at % 64) ≡ 0
    → ((k : ℕ) → at / 64 + 1 ≤ k → k < i → get_or words k 0 ≡ 0) → (q : ℕ) → at ≤ q → bit_of words q ≡ false
none_found words at i end here between q from =
    elim (cases_lt q (64 * i)) [
      | inl to ↦ none_before words at i here between q from to
      | inr past ↦ none_past words q (omega arith)
    ]

-- if all words before word i are 0 from `at` on, the lowest bit of word i is the least bit from `at` on
pub later_found : (words : List ℕ) (at i : ℕ) → at / 64 < i → get_or words i 0 < 2 ^ 64 → 0 < get_or words i 0
    → get_or words (at / 64) 0 / 2 ^ (at % 64) ≡ 0 → ((k : ℕ) → at / 64 + 1 ≤ k → k < i → get_or words k 0 ≡ 0)
    → (trailing_zeros w64 (get_or words i 0) < 64)
    × IsLeastFrom (bit_of words) at (64 * i + trailing_zeros w64 (get_or words i 0))
later_found words at i before fits some here between =
    let found = first_found words (64 * i) in
    let word : 64 * i / 64 ≡ i = omega arith in
    let place : 64 * i % 64 ≡ 0 = omega arith in
    let least = (rw (word, place, pow-zero 2, div-one (get_or words i 0)) at found) fits some in (
      least.0,
      record {
        from = omega arith;
        passes = least.1.passes;
        before = λ q a b.
            elim (cases_lt q (64 * i)) [
              | inl h ↦ none_before words at i here between q a h
              | inr h ↦ least.1.before q h b
            ];
      },
    )

-- in words of zeros, no bit is set
pub bit_of-zeros : (n k : ℕ) → bit_of (replicate n 0) k ≡ false
bit_of-zeros n k = grind (arith, common_steps, cases_lt, none_of_zero, get_or-replicate, none_past, length-replicate)

-- words of ones, and as many ones in the last word as make `count`
abbrev pub first_ones : ℕ → List ℕ
first_ones count = set (replicate (count / 64 + 1) (2 ^ 64 - 1)) (count / 64) (2 ^ (count % 64) - 1)

module _ (count : ℕ) where
  -- the last word of first_ones has as many ones as `count` has past the last whole word
  last_word : get_or (first_ones count) (count / 64) 0 ≡ 2 ^ (count % 64) - 1
  last_word = grind (arith, common_steps, get_or-set_same, length-replicate)

  -- in first_ones, each bit below `count` is set
  pub bit_of-ones : (k : ℕ) → k < count → bit_of (first_ones count) k ≡ true
  unfolding bit_of
  bit_of-ones k h =
      elim (cases_eq (k / 64) (count / 64)) [
        | inl e ↦ rw (e, last_word, bit_at_ones (count % 64) (k % 64) (omega arith)) refl
        | inr ne ↦
            rw (
              get_or-set_other (replicate (count / 64 + 1) (2 ^ 64 - 1)) (count / 64) (k / 64)
                  (2 ^ (count % 64) - 1) 0 ne,
              get_or-replicate (count / 64 + 1) (k / 64) (2 ^ 64 - 1) 0 (omega arith),
              bit_at_ones 64 (k % 64) (omega arith),
            ) refl
      ]

  -- in first_ones, no bit from `count` on is set
  pub bit_of-past_ones : (k : ℕ) → count ≤ k → bit_of (first_ones count) k ≡ false
  unfolding bit_of
  bit_of-past_ones k h = grind (arith, common_steps, bit_at_ones_above)
