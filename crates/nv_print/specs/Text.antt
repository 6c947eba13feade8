-- How numbers and bytes are written.
use Rattle.std.specs.Prelude.{ℕ, ◌-◌, false, List, ◌++◌, codes, length, replicate, ◌+◌, [], ◌∷◌, Bool}
use Rattle.std.specs.Prelude.{◌==◌, ◌&&◌, nat_le, take}
use Rattle.std.specs.Fmt.{digits}
use Rattle.std.specs.List.{suffix_len, take_while}

-- 0x and hexadecimal digits
abbrev pub hexadecimal : ℕ → List ℕ
hexadecimal n = codes "0x" ++ digits 16 false n

-- six hexadecimal digits, or more if the number needs them
abbrev pub six_digits : ℕ → List ℕ
six_digits n = replicate (6 - length (digits 16 false n)) 48 ++ digits 16 false n

-- a text at the left of a column of `width` characters
abbrev pub left : ℕ → List ℕ → List ℕ
left width text = text ++ replicate (width - length text) 32

-- a text at the right of a column of `width` characters
abbrev pub right : ℕ → List ℕ → List ℕ
right width text = replicate (width - length text) 32 ++ text

-- a line for each element, with its index
abbrev pub lines_of : {A : Type 0} → (ℕ → A → List ℕ) → ℕ → List A → List ℕ
lines_of line i [] = []
lines_of line i (x ∷ xs) = line i x ++ lines_of line (i + 1) xs

-- printable ASCII: 20h to 7Eh
abbrev pub is_printable : ℕ → Bool
is_printable b = nat_le 32 b && nat_le b 126

-- a text without the spaces at its end
abbrev pub without_trailing_spaces : List ℕ → List ℕ
without_trailing_spaces text = take (length text - suffix_len (λ b. b == 32) text) text

-- the printable ASCII at the beginning of some bytes, without the spaces at its end
abbrev pub printable : List ℕ → List ℕ
printable bytes = without_trailing_spaces (take_while is_printable bytes)
