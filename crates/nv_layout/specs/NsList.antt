-- A namespace list: its identifiers, then zeros.
use Rattle.std.specs.Prelude.{◌≡◌, ◌≢◌, ◌≤◌, ◌<◌, ◌-◌, ◌==◌, ◌^◌, Bool, ℕ, List, [], ◌∷◌, ◌++◌, length}
use Rattle.std.specs.List.{AllByRecursion, before_first}
use Rattle.nv_layout.specs.Parts.{Part, laid_out, numbers, numbers_at, zeros}
use Rattle.nv_layout.specs.Limits.{most_nsids}

-- a list of numbers with zeros after it up to a size
abbrev pub padded : ℕ → List ℕ → List ℕ
padded size xs = xs ++ zeros (size - length xs)

-- the fields of a namespace list: most_nsids numbers, with zeros after the identifiers
abbrev pub ns_list_parts : List ℕ → List Part
ns_list_parts ids = numbers 0 4 most_nsids (padded most_nsids ids) ∷ []

-- a namespace list as 4,096 bytes
unfoldable pub bytes_of_ns_list : List ℕ → List ℕ
bytes_of_ns_list ids = laid_out 4096 (ns_list_parts ids)

-- whether a number is 0
abbrev pub is_zero : ℕ → Bool
is_zero x = x == 0

-- the identifiers before the first zero
unfoldable pub ns_list_of_bytes : List ℕ → List ℕ
ns_list_of_bytes bytes = before_first is_zero (numbers_at 0 4 most_nsids bytes)

-- a list of at most most_nsids identifiers, none of them 0, is read back from its bytes
abbrev pub NsListReadsBack : Type 0
NsListReadsBack =
    (ids : List ℕ) → length ids ≤ most_nsids → AllByRecursion (λ x. (x ≢ 0) × (x < 2 ^ 32)) ids
    → ns_list_of_bytes (bytes_of_ns_list ids) ≡ ids
