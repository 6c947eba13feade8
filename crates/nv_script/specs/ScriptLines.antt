-- The lines of a script, and which of them were read.
use Rattle.std.specs.Prelude.{ℕ, ◌≡◌, ◌⊎◌, List, [], ◌∷◌, ◌++◌, fold, if◌then◌else◌, Bool, true, false}
use Rattle.std.specs.Prelude.{◌==◌, ◌||◌}
use Rattle.std.specs.Char.{is_newline}
use Rattle.std.specs.Io.KnownBytes.{IsAtEnd}
use Rattle.nv_stream.specs.Streams.{SourceState}

-- the greatest number of reads of one run
abbrev pub read_limit : ℕ
read_limit = 4294967295

-- bytes that are split at their newlines: the lines with a newline, and what follows the last newline
pub record Pieces : Type 0 where
  pub ended : List (List ℕ)
  pub last : List ℕ

-- the pieces with one more byte: a newline ends a line, and any other byte is added to the last one
abbrev pub with_byte : Pieces → ℕ → Pieces
with_byte p b =
    if is_newline b then (record { ended = p.ended ++ p.last ∷ []; last = [] })
    else (record { ended = p.ended; last = p.last ++ b ∷ [] })

-- the pieces of some bytes
abbrev pub pieces : List ℕ → Pieces
pieces bytes = fold with_byte (record { ended = []; last = [] }) bytes

-- a last piece without a newline is a line if it isn't empty
abbrev pub as_line : List ℕ → List (List ℕ)
as_line [] = []
as_line (b ∷ bs) = (b ∷ bs) ∷ []

-- the lines of a script that ends here
abbrev pub script_lines : List ℕ → List (List ℕ)
script_lines bytes = (pieces bytes).ended ++ as_line (pieces bytes).last

-- the source has failed, or the greatest number of reads was reached
abbrev pub has_stopped : ℕ → SourceState → Bool
has_stopped reads script = script.has_failed || script.calls == reads

-- a script was read to its end: a read returned no byte, and one more could have been made
pub record IsReadToEnd (reads : ℕ) (script : SourceState) : Type 0 where
  pub not_stopped : has_stopped reads script ≡ false
  pub has_ended : script.has_ended ≡ true
  pub at_end : IsAtEnd script.to_come

-- the lines that were read with these bytes: those whose newline was read, or all if the script was
-- read to its end
abbrev pub AreRead : ℕ → SourceState → List ℕ → List (List ℕ) → Type 0
AreRead reads script bytes lines =
    ((pieces bytes).ended ≡ lines) ⊎ (IsReadToEnd reads script × (script_lines bytes ≡ lines))
