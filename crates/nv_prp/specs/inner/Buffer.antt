-- A buffer in pages, and the list of their addresses: what no public contract reaches.
use Rattle.std.specs.Prelude.{◌≡◌, ℕ, ◌+◌, ◌-◌, ◌*◌, ◌<◌, List, slice_index}
use Rattle.nv_host.specs.Bytes.{bytes_at}
use Rattle.nv_prp.specs.Transfer.{list_place, naming_number, qword}
use Rattle.nv_prp.specs.Buffer.{IsApart}

-- only the n bytes from `addr` on change
abbrev pub ChangesOnly : ℕ → ℕ → List ℕ → List ℕ → Type 0
ChangesOnly addr n old new = (from k : ℕ) → IsApart addr n from k → bytes_at new from k
    ≡ bytes_at old from k

-- ---- the contents of a list

-- a list that begins at `first` and continues at `second` holds the addresses of the first pages of
-- a buffer, except page 0
pub record NamesPages (bytes : List ℕ) (page_size room first second : ℕ) (pages : List ℕ)
    (count : ℕ) : Type 0 where
  pub chain : room < count - 1 → qword bytes (first + 8 * (room - 1)) ≡ second
  pub each : (j : ℕ) → 0 < j → j < count
      → qword bytes (list_place room first second (naming_number room count j))
      ≡ slice_index pages j * page_size
