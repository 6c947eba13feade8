-- A record as bytes, which is a table of its fields: what no public contract reaches.
use Rattle.std.specs.Prelude.{◌≡◌, ℕ, Bool, ◌&&◌, nat_le, ◌+◌, ◌^◌, ◌<◌, List, [], ◌∷◌, length}
use Rattle.std.specs.List.{AllByRecursion}
use Rattle.nv_layout.specs.Parts.{Part, start_of, width_of, text_at, number_at, numbers_at, number}
use Rattle.nv_layout.specs.Parts.{numbers, text}

-- ---- tables

-- the fields are in order and don't overlap, from `from` on and within the size
abbrev pub is_table : ℕ → ℕ → List Part → Bool
is_table from size [] = nat_le from size
is_table from size (p ∷ ps) = nat_le from (start_of p) && is_table (start_of p + width_of p) size ps

-- the value fits its bytes
abbrev pub Fits : Part → Type 0
Fits (number at width x) = x < 256 ^ width
Fits (numbers at width count xs) = (length xs ≡ count) × AllByRecursion (λ x. x < 256 ^ width) xs
Fits (text at width bytes) = length bytes ≡ width

-- the bytes hold the value
abbrev pub Holds : List ℕ → Part → Type 0
Holds bytes (number at width x) = number_at at width bytes ≡ x
Holds bytes (numbers at width count xs) = numbers_at at width count bytes ≡ xs
Holds bytes (text at width t) = text_at at width bytes ≡ t
