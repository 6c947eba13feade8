-- Parts of a list of bytes.
use Rattle.std.specs.Prelude.{◌≡◌, ℕ, ◌+◌, ◌≤◌, List, ◌++◌, drop, length, take}

-- the n bytes from `addr` on
unfoldable pub bytes_at : List ℕ → ℕ → ℕ → List ℕ
bytes_at bytes addr n = take n (drop addr bytes)

-- the bytes after `written` was written from `addr` on
unfoldable pub with_bytes : List ℕ → ℕ → List ℕ → List ℕ
with_bytes bytes addr written = take addr bytes ++ (written ++ drop (addr + length written) bytes)

-- ---- laws

-- what was written is read back
abbrev pub WrittenIsRead : Type 0
WrittenIsRead =
    (bytes : List ℕ) (addr : ℕ) (written : List ℕ) → addr + length written ≤ length bytes
    → bytes_at (with_bytes bytes addr written) addr (length written) ≡ written

-- a part that ends before the written bytes doesn't change, and neither does one that begins after them
abbrev pub OthersStay : Type 0
OthersStay =
    (bytes : List ℕ) (addr : ℕ) (written : List ℕ) (from n : ℕ)
    → addr + length written ≤ length bytes
    → ((from + n ≤ addr → bytes_at (with_bytes bytes addr written) from n ≡ bytes_at bytes from n)
    × (addr + length written ≤ from
    → bytes_at (with_bytes bytes addr written) from n ≡ bytes_at bytes from n))

-- a write changes no length
abbrev pub LengthStays : Type 0
LengthStays = (bytes : List ℕ) (addr : ℕ) (written : List ℕ) → addr + length written ≤ length bytes
    → length (with_bytes bytes addr written) ≡ length bytes
