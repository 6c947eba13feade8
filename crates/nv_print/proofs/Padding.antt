-- Spaces in columns, and the text after a key.
use Rattle.nv_print.proofs.Words.{[], ℕ, ◌++◌, ◌+◌, ◌-◌, ◌<◌, ◌∙◌, ◌∷◌, ◌≡◌, ◌≤◌, IsAscii, IsAscii-append, IsAscii-cons}
use Rattle.nv_print.proofs.Words.{IsAscii-nil, List, ap, append_assoc, arith, common_steps, drop, left, length}
use Rattle.nv_print.proofs.Words.{length-append, refl, right, suc, take, zero}
use Rattle.std.specs.Prelude.{codes, replicate}
use Rattle.std.specs.Str.{IsCharBoundary}
use Rattle.std.proofs.lemmas.List.{drop-append-le, drop-replicate, take-replicate}
use Rattle.std.proofs.lemmas.List.Elements.{All-replicate}
use Rattle.std.proofs.lemmas.Str.{IsCharBoundary-from_ascii}
use Rattle.std.proofs.lemmas.Str.Ascii.{IsAscii-from_all}

-- ---- spaces

-- a character of ASCII, many times, is ASCII
pub repeated_ascii : (n b : ℕ) → b < 128 → IsAscii (replicate n b)
repeated_ascii n b low = IsAscii-from_all (replicate n b) (All-replicate (λ b. b < 128) n b low)

-- many spaces can be cut at each of their places
pub spaces_cut : (n : ℕ) → n ≤ 41 → IsCharBoundary (codes "                                         ") n
spaces_cut n within =
    IsCharBoundary-from_ascii (codes "                                         ") n (repeated_ascii 41 32 (omega arith))
    within

-- the first n of many spaces are n spaces
pub spaces_are : (n : ℕ) → n ≤ 41 → take n (codes "                                         ") ≡ replicate n 32
spaces_are n within = take-replicate n 41 32 within

-- one more space is a space after the others
one_more : (n : ℕ) → replicate {A = ℕ} (n + 1) 32 ≡ replicate n 32 ++ 32 ∷ []
one_more zero = refl
one_more (suc n) =
    let next : suc n + 1 ≡ suc (n + 1) = omega arith in
    ap (λ (k : ℕ). replicate {A = ℕ} k 32) next ∙ ap (λ t. 32 ∷ t) (one_more n)

-- a text to which another and spaces were added has it at the left of a column, and a space, after it
pub left_more : (text shown : List ℕ) (width : ℕ)
    → (text ++ shown) ++ replicate ((width - length shown) + 1) 32 ≡ text ++ (left width shown ++ 32 ∷ [])
left_more text shown width = grind (arith, common_steps, append_assoc, one_more)

-- the same, where the length of what was added is the difference of the lengths of the texts
pub node_more : (text shown : List ℕ) (gap : ℕ) → gap ≡ (18 - (length (text ++ shown) - length text)) + 1
    → (text ++ shown) ++ replicate gap 32 ≡ text ++ (left 18 shown ++ 32 ∷ [])
node_more text shown gap is = grind (arith, common_steps, length-append, left_more)

-- a text to which spaces and another text were added has a space, and it at the right of a column, after it
pub column_more : (text shown : List ℕ) (width : ℕ)
    → (text ++ replicate ((width - length shown) + 1) 32) ++ shown ≡ text ++ (32 ∷ right width shown)
column_more text shown width = grind (arith, common_steps, append_assoc)

-- ---- between a key and its value

-- the widest gap can be cut at each of its places
pub gap_cut : (n : ℕ) → IsCharBoundary (codes "                    : ") (20 - n)
gap_cut n =
    grind (arith, common_steps, IsAscii-cons, IsAscii-nil, IsAscii-append, repeated_ascii, IsCharBoundary-from_ascii)

-- what is left of the gap after a key of k characters is the spaces up to 20 and a colon
pub gap_is : (room k : ℕ) → room ≡ 20 - k
    → drop (20 - room) (codes "                    : ") ≡ replicate (20 - k) 32 ++ codes ": "
gap_is room k is =
    let within : 20 - room ≤ 20 = omega arith in
    let left : 20 - (20 - room) ≡ 20 - k = omega arith in
    drop-append-le (20 - room) (replicate 20 32) (codes ": ") within
    ∙ ap (λ (spaces : List ℕ). spaces ++ codes ": ")
    (drop-replicate (20 - room) 20 32 ∙ ap (λ (n : ℕ). replicate {A = ℕ} n 32) left)
