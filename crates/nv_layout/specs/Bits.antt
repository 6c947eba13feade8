-- Fields of bits.
use Rattle.std.specs.Prelude.{ℕ, Bool, if◌then◌else◌, ◌*◌, ◌/◌, ◌%◌, ◌^◌}

-- the `count` bits from bit `low` on
abbrev pub bits : ℕ → ℕ → ℕ → ℕ
bits low count x = x / 2 ^ low % 2 ^ count

-- a number with the lowest `count` bits of x from bit `low` on, and zeros elsewhere
abbrev pub at_bits : ℕ → ℕ → ℕ → ℕ
at_bits low count x = x % 2 ^ count * 2 ^ low

-- a flag's bit
abbrev pub bit : Bool → ℕ
bit flag = if flag then 1 else 0
