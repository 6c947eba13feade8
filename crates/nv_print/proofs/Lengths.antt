-- How long texts are.
use Rattle.nv_print.proofs.Words.{[], ℕ, ◌%◌, ◌*◌, ◌+◌, ◌-◌, ◌/◌, ◌<◌, ◌==◌, ◌^◌, ◌∙◌, ◌∷◌, ◌≡◌, ◌≤◌, All, Bool}
use Rattle.nv_print.proofs.Words.{List, ap}
use Rattle.nv_print.proofs.Words.{arith, common_steps, decimal, digit_glyph, digits_onto, escape, false, hexadecimal}
use Rattle.nv_print.proofs.Words.{if◌then◌else◌, left, length, length-append, length-take, nat_tests, printable, quoted}
use Rattle.nv_print.proofs.Words.{right, six_digits, suc, true, zero}
use Rattle.std.specs.Fmt.{digits}
use Rattle.std.proofs.lemmas.Fmt.{length-decimal-le}
use Rattle.std.proofs.lemmas.List.{length-replicate}
use Rattle.std.proofs.lemmas.List.Elements.{All-cons}
use Rattle.json.specs.Print.{escape_byte}

-- what holds of two texts holds of the chosen one
either : (P : List ℕ → Type 0) (t : Bool) (x y : List ℕ) → P x → P y → P (if t then x else y)
either P true x y hx hy = hx
either P false x y hx hy = hy

-- what holds of the character of each digit, and of each byte of a text, holds of each byte of digits before the text
module _ (P : ℕ → Type 0) (base : ℕ) (upper : Bool) (each : (n : ℕ) → P (digit_glyph upper (n % base))) where
  pub All-digits : (k n : ℕ) (acc : List ℕ) → All P acc → All P (digits_onto k base upper n acc)
  All-digits zero n acc h = h
  All-digits (suc k) n acc h =
      let more = All-cons P (digit_glyph upper (n % base)) acc (each n) h in
      either (All P) (n / base == 0) _ _ more (All-digits k (n / base) (digit_glyph upper (n % base) ∷ acc) more)

-- at most k digits are written before a text
digits_onto-length : (k base : ℕ) (upper : Bool) (n : ℕ) (acc : List ℕ)
    → length (digits_onto k base upper n acc) ≤ k + length acc
digits_onto-length zero base upper n acc = omega arith
digits_onto-length (suc k) base upper n acc =
    let more = digits_onto-length k base upper (n / base) (digit_glyph upper (n % base) ∷ acc) in
    either (λ t. length t ≤ suc k + length acc) (n / base == 0) _ _ (omega arith) (omega arith)

-- a number in any base has at most 64 digits
pub digits_length : (base : ℕ) (upper : Bool) (n : ℕ) → length (digits base upper n) ≤ 64
unfolding digits
digits_length base upper n = omega (arith, digits_onto-length 64 base upper n [])

-- a decimal number has at most 64 bytes
pub decimal_length : (n : ℕ) → length (decimal n) ≤ 64
decimal_length n = digits_length 10 false n

-- a hexadecimal number has at most 66 bytes
pub hexadecimal_length : (n : ℕ) → length (hexadecimal n) ≤ 66
hexadecimal_length n = omega (arith, digits_length 16 false n)

-- a number of six hexadecimal digits or more has at most 64 bytes
pub six_digits_length : (n : ℕ) → length (six_digits n) ≤ 64
six_digits_length n = grind (arith, common_steps, digits_length, length-append, length-replicate)

-- a text at the left of a column has the width of the column, or its own length if that is greater
pub left_length : (width : ℕ) (text : List ℕ) → length (left width text) ≡ length text + (width - length text)
left_length width text = length-append text _ ∙ ap (λ n. length text + n) (length-replicate (width - length text) 32)

-- a text at the right of a column has the width of the column, or its own length if that is greater
pub right_length : (width : ℕ) (text : List ℕ) → length (right width text) ≡ (width - length text) + length text
right_length width text = length-append _ text ∙ ap (λ n. n + length text) (length-replicate (width - length text) 32)

-- the printable part of some bytes is no longer than they are
pub printable_length : (bs : List ℕ) → length (printable bs) ≤ length bs
printable_length bs = omega (arith, length-take {A = ℕ})

-- a byte is escaped in six bytes at most
escape_byte-length : (x : ℕ) → length (escape_byte x) ≤ 6
unfolding escape_byte
escape_byte-length x = grind (arith)

-- a text is at most six times as long when it is escaped
pub escape_length : (s : List ℕ) → length (escape s) ≤ 6 * length s
escape_length [] = omega arith
escape_length (x ∷ s) = omega (arith, length-append (escape_byte x) (escape s), escape_byte-length x, escape_length s)

-- a text is quoted in at most six times its length and two bytes more
pub quoted_length : (s : List ℕ) → length (quoted s) ≤ 6 * length s + 2
quoted_length s = omega (arith, length-append (escape s) (34 ∷ []), escape_length s)

-- ---- numbers of a type

-- a number of 64 bits has at most 20 decimal digits
pub decimal_short : (n : ℕ) → n < 2 ^ 64 → length (decimal n) ≤ 20
decimal_short n h = length-decimal-le 20 n (omega arith) (omega arith) h

-- a number below 16 ^ (k + 1) adds at most k + 1 digits
hexadecimal_onto : (k fuel n : ℕ) (acc : List ℕ) → n < 16 ^ suc k
    → length (digits_onto fuel 16 false n acc) ≤ suc k + length acc
hexadecimal_onto k zero n acc h = omega arith
hexadecimal_onto zero (suc fuel) n acc h =
    let one : (n / 16 == 0) ≡ true = grind (arith, nat_tests) in
    rw one (omega arith)
hexadecimal_onto (suc k) (suc fuel) n acc h =
    let below : n / 16 < 16 ^ suc k = omega arith in
    let more = hexadecimal_onto k fuel (n / 16) (digit_glyph false (n % 16) ∷ acc) below in
    either (λ t. length t ≤ suc (suc k) + length acc) (n / 16 == 0) _ _ (omega arith) (omega arith)

-- a number of 64 bits in hexadecimal has at most 18 bytes
pub hexadecimal_short : (n : ℕ) → n < 2 ^ 64 → length (hexadecimal n) ≤ 18
unfolding digits
hexadecimal_short n h = omega (arith, hexadecimal_onto 15 64 n [] h)
