-- What a sink that marks lines passes on to the sink inside it.
use Rattle.std.specs.Prelude.{◌≡◌, ◌≢◌, ℕ, ◌+◌, ◌-◌, ◌<◌, ◌==◌, Bool, List, [], ◌++◌, Option, MatchOption, codes, take}
use Rattle.std.specs.Prelude.{if◌then◌else◌, slice_index_or}
use Rattle.std.specs.Io.KnownBytes.{Appends}
use Rattle.nv_stream.specs.Streams.{IsBeginning}

-- the mark before a line, if the next byte begins one
abbrev pub mark_at : Bool → List ℕ
mark_at begins = if begins then codes "| " else []

-- the first n of these bytes are of one line: none but the last is a newline
abbrev pub IsOfOneLine : ℕ → List ℕ → Type 0
IsOfOneLine n bytes = (k : ℕ) → k + 1 < n → slice_index_or bytes k 0 ≢ 10

-- the sink inside took the bytes of one line that a write took, behind the mark where they begin
-- it; a write that failed passed on no more than the mark. `begins` says whether the next byte
-- begins a line, before and after
abbrev pub IsMarked : Bool → Bool → Option (List ℕ) → Option (List ℕ) → Option ℕ → List ℕ → Type 0
IsMarked begins begins' old new answer bytes = MatchOption answer
    ((part : List ℕ) × IsBeginning part (mark_at begins) × Appends old new part)
    (λ n. Appends old new (mark_at begins ++ take n bytes) × IsOfOneLine n bytes
    × (0 < n → begins' ≡ (slice_index_or bytes (n - 1) 0 == 10)))
