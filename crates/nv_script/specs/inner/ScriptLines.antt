-- The lines of a script, and which of them were read: what no public contract reaches.
use Rattle.std.specs.Prelude.{ℕ, List, ◌++◌, length, nat_le, if◌then◌else◌, Option, None, Some}
use Rattle.nv_line.specs.Word.{line_limit}

-- a line as a buffer holds it: all of it, or none if it has more than 4,095 bytes
abbrev pub buffer_of : List ℕ → Option (List ℕ)
buffer_of line = if nat_le (length line) line_limit then Some line else None

-- the buffer with these bytes added
abbrev pub buffer_after : Option (List ℕ) → List ℕ → Option (List ℕ)
buffer_after None bytes = None
buffer_after (Some line) bytes = buffer_of (line ++ bytes)
