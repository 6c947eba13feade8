-- Bits in words of 64: what no public contract reaches.
use Rattle.std.specs.Prelude.{◌≡◌, ℕ, ◌==◌, ◌<◌, ◌≤◌, Bool, true, false, if◌then◌else◌, List}
use Rattle.nv_bits.specs.Words.{bit_of}

-- bit k is now b, and the other bits are unchanged
abbrev pub ChangesBit : List ℕ → List ℕ → ℕ → Bool → Type 0
ChangesBit old new k b = (j : ℕ) → bit_of new j ≡ (if j == k then b else bit_of old j)

-- n is the least number from `at` on that passes the test
pub record IsLeastFrom (p : ℕ → Bool) (at n : ℕ) : Type 0 where
  pub from : at ≤ n
  pub passes : p n ≡ true
  pub before : (q : ℕ) → at ≤ q → q < n → p q ≡ false
