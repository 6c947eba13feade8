-- The lines of a trace that a sink takes.
use Rattle.std.specs.Prelude.{◌≡◌, ℕ, true, false, not, List, [], ◌∷◌, ◌++◌, take}
use Rattle.nv_bus.specs.declared.exchange.Exchange.{Exchange}
use Rattle.nv_stream.specs.Streams.{SinkState, WritesAll}
use Rattle.nv_trace.specs.Lines.{posted_text, taken_text, written_text}

-- a sink took the line of a text, which has its first 319 bytes and a newline, or a beginning of it up to its failure
abbrev pub IsSaid : List ℕ → SinkState → SinkState → Type 0
IsSaid text old new = WritesAll (not new.has_failed) old.taken new.taken (take 319 text ++ 10 ∷ [])

-- the same of a sink that may have failed before: then nothing was written
pub record Says {S : Type 0} (state : S → SinkState) (text : List ℕ) (old new : S) : Type 0 where
  pub line : (state old).has_failed ≡ false → IsSaid text (state old) (state new)
  pub silent : (state old).has_failed ≡ true → new ≡ old

-- a sink took the lines of these texts, one after another, and nothing else
abbrev pub SaysAll : {S : Type 0} → (S → SinkState) → List (List ℕ) → S → S → Type 0
SaysAll state [] old new = new ≡ old
SaysAll {S} state (text ∷ texts) old new = (mid : S) × Says state text old mid × SaysAll state texts mid new

-- ---- a register write

-- a dword was written to an offset of controller c's registers
abbrev pub write_text : ℕ → ℕ → ℕ → List ℕ
write_text c offset x = written_text (record { ctrl = c; offset = offset; dword = x })

-- ---- a turn

-- the texts of entries that controller c took, and of their completions
abbrev pub exchange_texts : ℕ → List Exchange → List (List ℕ)
exchange_texts c [] = []
exchange_texts c (e ∷ es) =
    taken_text (record { ctrl = c; entry = e.entry }) ∷ posted_text (record { ctrl = c; completion = e.completion })
    ∷ exchange_texts c es
