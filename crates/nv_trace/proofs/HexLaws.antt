-- Hexadecimal digits of a number, from the last to the first.
use Rattle.std.proofs.Common.{◌≡◌, ◌≢◌, ◌∙◌, ℕ, suc, zero, ◌+◌, ◌-◌, ◌/◌, ◌%◌, ◌^◌, ◌<◌, ◌≤◌, Bool, true, false, List}
use Rattle.std.proofs.Common.{◌∷◌, ap, arith, drop, length, refl, set, subst, sym}
use Rattle.std.proofs.Math.Nat.{div-lt_iff_lt-mul, pow-suc}
use Rattle.std.proofs.lemmas.List.{drop-set, drop_all}
use Rattle.std.specs.Fmt.{digit_glyph, digits, digits_onto}
use Rattle.std.specs.Prelude.{◌==◌, if◌then◌else◌}
use Rattle.nv_trace.specs.Lines.{hex}

chosen : (b : Bool) (xs ys : List ℕ) → b ≡ true → (if b then xs else ys) ≡ xs
chosen true xs ys is = refl
chosen false xs ys is = absurd (cc)

refused : (b : Bool) (xs ys : List ℕ) → b ≡ false → (if b then xs else ys) ≡ ys
refused true xs ys is = absurd (cc)
refused false xs ys is = refl

-- before the first digit is written, there are none behind it
pub begins : (n : ℕ) (room : List ℕ) → length room ≡ 16 → digits_onto (48 + 16) 16 false n (drop 16 room) ≡ hex n
unfolding digits
begins n room size = ap (λ acc. digits_onto 64 16 false n acc) (drop_all 16 room (omega (arith, size)))

module _ (at n number : ℕ) (room : List ℕ) (some : 0 < at) (few : at ≤ 16) (size : length room ≡ 16)
    (left : digits_onto (48 + at) 16 false n (drop at room) ≡ hex number) where
  -- the room from the place before on, after a digit is written there
  behind : drop (at - 1) (set room (at - 1) (digit_glyph false (n % 16))) ≡ digit_glyph false (n % 16) ∷ drop at room
  behind =
      drop-set room (at - 1) (digit_glyph false (n % 16)) (omega (arith, size))
      ∙ ap (λ k. digit_glyph false (n % 16) ∷ drop k room) (omega arith)

  fuel : 48 + at ≡ suc (48 + (at - 1))
  fuel = omega arith

  -- if nothing is left after a digit, all digits are written
  pub ended : n / 16 ≡ 0 → drop (at - 1) (set room (at - 1) (digit_glyph false (n % 16))) ≡ hex number
  ended none =
      behind
      ∙ sym (chosen (n / 16 == 0) (digit_glyph false (n % 16) ∷ drop at room)
      (digits_onto (48 + (at - 1)) 16 false (n / 16) (digit_glyph false (n % 16) ∷ drop at room)) (grind (arith, none)))
      ∙ sym (ap (λ k. digits_onto k 16 false n (drop at room)) fuel)
      ∙ left

  -- otherwise the digits before it are left
  pub goes_on : n / 16 ≢ 0
      → digits_onto (48 + (at - 1)) 16 false (n / 16) (drop (at - 1) (set room (at - 1) (digit_glyph false (n % 16))))
      ≡ hex number
  goes_on more =
      ap (λ acc. digits_onto (48 + (at - 1)) 16 false (n / 16) acc) behind
      ∙ sym (refused (n / 16 == 0) (digit_glyph false (n % 16) ∷ drop at room)
      (digits_onto (48 + (at - 1)) 16 false (n / 16) (digit_glyph false (n % 16) ∷ drop at room)) (grind (arith, more)))
      ∙ sym (ap (λ k. digits_onto k 16 false n (drop at room)) fuel)
      ∙ left

-- a number of at most k + 1 digits has one of at most k digits before its last
pub fewer : (at n : ℕ) → 0 < at → n < 16 ^ at → n / 16 < 16 ^ (at - 1)
fewer zero n some fits = absurd (omega arith)
fewer (suc k) n some fits =
    let one : k ≡ suc k - 1 = omega arith in
    subst (λ m. n / 16 < 16 ^ m) one ((div-lt_iff_lt-mul {k = 16} (omega arith)).1 (omega (arith, fits, pow-suc 16 k)))

-- if there is something left, there is room for it
pub some_room : (at n : ℕ) → n ≢ 0 → n < 16 ^ at → 0 < at
some_room zero n more fits = absurd (more (omega arith))
some_room (suc k) n more fits = omega arith
