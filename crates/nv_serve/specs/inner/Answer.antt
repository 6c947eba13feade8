-- The bytes of an answer: what no public contract reaches.
use Rattle.std.specs.Prelude.{ℕ, List}
use Rattle.nv_serve.specs.declared.answer.AnswerHeader.{AnswerHeader}
use Rattle.nv_serve.specs.Answer.{Answer}

-- the answer with this header and this data
abbrev pub answer : AnswerHeader → List ℕ → Answer
answer header payload = record { header = header; payload = payload }
