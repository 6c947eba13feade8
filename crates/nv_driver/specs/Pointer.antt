-- Where the data pointer of a request points.
use Rattle.std.specs.Prelude.{◌≡◌, ℕ, ◌+◌, ◌*◌, ◌<◌, List}
use Rattle.nv_prp.specs.Transfer.{data_pages}
use Rattle.nv_driver.specs.Schedule.{Sent, data_length, pointed}

-- a list, if the data pointer has one, begins at its place
abbrev pub IsListedAtPlace : ℕ → Sent → List ℕ → Type 0
IsListedAtPlace page_size x mem =
    0 < data_length x → 2 < data_pages (pointed page_size x mem)
    → x.prp2 ≡ x.first * page_size + x.list_offset

-- PRP2 is 0 if all data is in one page
abbrev pub IsZeroForOne : ℕ → Sent → List ℕ → Type 0
IsZeroForOne page_size x mem =
    0 < data_length x → data_pages (pointed page_size x mem) ≡ 1 → x.prp2 ≡ 0

-- so it is whatever the memory holds, and a request without data has no data pointer
pub record IsPointedFrom (page_size : ℕ) (x : Sent) : Type 0 where
  pub list : (mem : List ℕ) → IsListedAtPlace page_size x mem
  pub one : (mem : List ℕ) → IsZeroForOne page_size x mem
  pub none : data_length x ≡ 0 → (x.prp1 ≡ 0) × (x.prp2 ≡ 0)
