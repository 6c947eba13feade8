-- Bytes at places: an address for each byte, in order.
use Rattle.std.specs.Prelude.{◌≡◌, ◌≢◌, ℕ, zero, suc, ◌+◌, ◌<◌, ◌≤◌, List, [], ◌∷◌, ◌++◌, All}
use Rattle.std.specs.Prelude.{AllPairs, length, map, slice_index, slice_set}
use Rattle.std.specs.List.{flat_map}
use Rattle.nv_prp.specs.declared.spans.Span.{Span}

-- the list of f 0, f 1, .. up to n elements
abbrev pub table : {X : Type 0} → ℕ → (ℕ → X) → List X
table zero f = []
table (suc n) f = table n f ++ f n ∷ []

-- the places of a span's bytes, and of the bytes of spans in order
unfoldable pub span_places : Span → List ℕ
span_places s = table s.len (λ k. s.address + k)

-- the places of the bytes of spans in order
unfoldable pub places : List Span → List ℕ
places spans = flat_map span_places spans

-- the spans lie in a memory of this size
unfoldable pub LieIn : ℕ → List Span → Type 0
LieIn size spans = All (λ s. s.address + s.len ≤ size) spans

-- the bytes at the places
unfoldable pub read_at : List ℕ → List ℕ → List ℕ
read_at bytes at = map (λ p. slice_index bytes p) at

-- the bytes after `written` was written to the places, one byte after the other
unfoldable pub written_at : List ℕ → List ℕ → List ℕ → List ℕ
written_at bytes [] written = bytes
written_at bytes (p ∷ at) [] = bytes
written_at bytes (p ∷ at) (b ∷ written) = written_at (slice_set bytes p b) at written

-- all are distinct
abbrev pub AreDistinct : List ℕ → Type 0
AreDistinct at = AllPairs (λ p q. p ≢ q) at

-- ---- laws

-- if several bytes are written to one place, the last of them stays
abbrev pub LaterStays : Type 0
LaterStays = (bytes at written : List ℕ) (i : ℕ) → length at ≡ length written → i < length at
    → slice_index at i < length bytes
    → ((k : ℕ) → i < k → k < length at → slice_index at k ≢ slice_index at i)
    → slice_index (written_at bytes at written) (slice_index at i) ≡ slice_index written i

-- bytes at other places don't change
abbrev pub OthersStay : Type 0
OthersStay =
    (bytes at written : List ℕ) (other : ℕ) → ((k : ℕ) → k < length at → slice_index at k ≢ other)
    → slice_index (written_at bytes at written) other ≡ slice_index bytes other

-- bytes that are written to distinct places of spans in the memory are read back from them
abbrev pub WrittenIsRead : Type 0
WrittenIsRead = (bytes : List ℕ) (spans : List Span) (written : List ℕ) → LieIn (length bytes) spans
    → length (places spans) ≡ length written → AreDistinct (places spans)
    → read_at (written_at bytes (places spans) written) (places spans) ≡ written
