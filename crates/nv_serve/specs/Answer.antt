-- The bytes of an answer: a header, and the data from the controller.
use Rattle.std.specs.Prelude.{ℕ, ◌++◌, List, [], ◌∷◌}
use Rattle.nv_layout.specs.Parts.{laid_out, number}
use Rattle.nv_layout.specs.Status.{number_of_status}
use Rattle.nv_bus.specs.Entry.{success}
use Rattle.nv_serve.specs.declared.answer.AnswerHeader.{AnswerHeader}
use Rattle.nv_serve.specs.declared.answer.Outcome.{Outcome}
use Rattle.nv_serve.specs.declared.answer.Outcome.TheVariants.{Answered, NoController, NoKind, TooLong}

-- the number of an outcome in the header
abbrev pub outcome_number : Outcome → ℕ
outcome_number Answered = 0
outcome_number NoController = 1
outcome_number NoKind = 2
outcome_number TooLong = 3

-- a header as twelve bytes: dword 0, the status, the outcome and the length of the data
abbrev pub bytes_of_header : AnswerHeader → List ℕ
bytes_of_header h = laid_out 12
    (number 0 4 h.dword0
    ∷ number 4 2 (number_of_status h.status)
    ∷ number 6 2 (outcome_number h.outcome)
    ∷ number 8 4 h.length
    ∷ [])

-- a header with no data and no status of a command
abbrev pub bare : Outcome → AnswerHeader
bare outcome = record { dword0 = 0; status = success; outcome = outcome; length = 0 }

-- an answer: its header, and the data from the controller
pub record Answer : Type 0 where
  pub header : AnswerHeader
  pub payload : List ℕ

-- an answer as bytes: its header, and then its data
abbrev pub bytes_of : Answer → List ℕ
bytes_of a = bytes_of_header a.header ++ a.payload
