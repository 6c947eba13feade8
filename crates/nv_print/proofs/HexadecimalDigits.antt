-- Hexadecimal digits, written from the last to the first.
use Rattle.nv_print.proofs.Words.{[], ℕ, ◌%◌, ◌-◌, ◌/◌, ◌<◌, ◌==◌, ◌∷◌, ◌≡◌, ◌≤◌, Bool, IsAscii, IsAscii-append}
use Rattle.nv_print.proofs.Words.{IsAscii-cons, IsUtf8, IsUtf8-from_ascii, List, ap, arith, common_steps}
use Rattle.nv_print.proofs.Words.{digit_glyph, digits_onto, drop, false, hexadecimal, if◌then◌else◌, length, length-set}
use Rattle.nv_print.proofs.Words.{nat_tests, refl, set, six_digits, suc, take, true, zero}
use Rattle.std.specs.Prelude.{replicate}
use Rattle.std.specs.Fmt.{digits}
use Rattle.std.proofs.lemmas.List.{length-drop, take_all}
use Rattle.std.proofs.lemmas.List.Elements.{All-nil}
use Rattle.std.proofs.lemmas.Str.Ascii.{IsAscii-from_all}
use Rattle.nv_print.proofs.Lengths.{All-digits}
use Rattle.nv_print.proofs.Padding.{repeated_ascii}

-- the character of the last hexadecimal digit of a number
abbrev last_digit : ℕ → ℕ
last_digit n = digit_glyph false (n % 16)

-- before the first digit is written, the digits to write are all digits of the number
pub none_written : (n : ℕ) → digits_onto 64 16 false n [] ≡ digits 16 false n
unfolding digits
none_written n = refl

-- by whether a digit is the first one: it alone is before the text, or the digits of the rest come before it
by_test : (i n : ℕ) (acc : List ℕ) (t : Bool) → (n / 16 == 0) ≡ t → 0 < i
    → digits_onto i 16 false n acc
    ≡ (if t then last_digit n ∷ acc else digits_onto (i - 1) 16 false (n / 16) (last_digit n ∷ acc))
by_test zero n acc t e h = absurd (omega arith)
by_test (suc k) n acc t e h =
    let less : suc k - 1 ≡ k = omega arith in
    rw less
    (ap (λ t. if t then last_digit n ∷ acc else digits_onto k 16 false (n / 16) (last_digit n ∷ acc)) e)

-- the first digit of a number comes before the digits that are already there
pub first_digit : (i n : ℕ) (acc : List ℕ) → 0 < i → n / 16 ≡ 0
    → digits_onto i 16 false n acc ≡ last_digit n ∷ acc
first_digit i n acc h none = by_test i n acc true (grind (arith, nat_tests)) h

-- a later digit is before the text, and the digits of the rest come before it
pub later_digit : (i n : ℕ) (acc : List ℕ) → 0 < i → (n / 16 ≡ 0 → ⊥)
    → digits_onto i 16 false n acc ≡ digits_onto (i - 1) 16 false (n / 16) (last_digit n ∷ acc)
later_digit i n acc h some = by_test i n acc false (grind (arith, nat_tests)) h

-- a byte that is written directly before others comes first
pub put_before : (room : List ℕ) (i x : ℕ) → 0 < i → i ≤ length room
    → drop (i - 1) (set room (i - 1) x) ≡ x ∷ drop i room
put_before room zero x h within = absurd (omega arith)
put_before [] (suc i) x h within = absurd (omega arith)
put_before (y ∷ room) (suc zero) x h within = refl
put_before (y ∷ room) (suc (suc i)) x h within =
    let less : suc (suc i) - 1 ≡ suc i = omega arith in
    let before : suc i - 1 ≡ i = omega arith in
    rw less (rw before at (put_before room (suc i) x (omega arith) (omega arith)))

-- writing `0x` before all digits of a number gives its hexadecimal text
pub prefixed : (room : List ℕ) (start n : ℕ) → 2 ≤ start → start ≤ 66 → length room ≡ 66
    → drop start room ≡ digits 16 false n
    → take (66 - (start - 1 - 1)) (drop (start - 1 - 1) (set (set room (start - 1) 120) (start - 1 - 1) 48))
    ≡ hexadecimal n
prefixed room start n after within len is = grind (arith, common_steps, length-set, take_all, length-drop, put_before)

-- ---- they are ASCII

-- the character of a hexadecimal digit is ASCII
glyph_ascii : (n : ℕ) → last_digit n < 128
glyph_ascii n = grind (arith, nat_tests)

-- hexadecimal digits are ASCII
digits_ascii : (n : ℕ) → IsAscii (digits 16 false n)
unfolding digits
digits_ascii n = IsAscii-from_all _ (All-digits (λ b. b < 128) 16 false glyph_ascii 64 n [] (All-nil (λ b. b < 128)))

-- a hexadecimal number is UTF-8
pub hexadecimal_utf8 : (n : ℕ) → IsUtf8 (hexadecimal n)
hexadecimal_utf8 n =
    IsUtf8-from_ascii _
    (IsAscii-cons 48 (120 ∷ digits 16 false n) (omega arith)
    (IsAscii-cons 120 (digits 16 false n) (omega arith) (digits_ascii n)))

-- a number of six hexadecimal digits is UTF-8
pub six_digits_utf8 : (n : ℕ) → IsUtf8 (six_digits n)
six_digits_utf8 n =
    IsUtf8-from_ascii _
    (IsAscii-append (replicate (6 - length (digits 16 false n)) 48) (digits 16 false n)
    (repeated_ascii (6 - length (digits 16 false n)) 48 (omega arith)) (digits_ascii n))

-- the character of a digit below 16 is ASCII
pub glyph_low : (n : ℕ) → n < 16 → digit_glyph false n < 128
glyph_low n h = grind (arith, nat_tests)
