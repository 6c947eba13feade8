-- A namespace in its format.
use Rattle.std.proofs.Common.{◌≡◌, ℕ, ◌<◌, ◌^◌, List, length, Option, rules}
use Rattle.nv_model.proofs.Words.{Format, IsInFormat, IsSomeAnd, Namespace, slice_get, slice_get_within}

-- an index at which a table has some format is within the table
some_within : (fs : List Format) (i : ℕ) (P : Format → Type 0) (o : Option Format) → slice_get fs i
    ≡ o → IsSomeAnd o P → i < length fs
some_within fs i P o h e = search (rules, slice_get_within)

-- a namespace in a format names a format of the table
pub format_below : (mc : ℕ) (x : Namespace) (fs : List Format) → IsSomeAnd (slice_get fs x.format)
    (λ f. IsInFormat mc f x) → x.format < length fs
format_below mc x fs h = search (rules, some_within)

-- the capacity of a namespace in a format is below 2 ^ 64
pub capacity_fits : (mc : ℕ) (x : Namespace) (o : Option Format)
    → IsSomeAnd o (λ f. IsInFormat mc f x) → x.capacity < 2 ^ 64
capacity_fits mc x o h = search rules
