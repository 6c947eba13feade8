-- Rows of conditions that may refuse a command: what no public contract reaches.
use Rattle.std.specs.Prelude.{List, ◌≡◌, Some, None, Result, Ok, Err}
use Rattle.nv_command.specs.declared.refusal.Refusal.{Refusal}
use Rattle.nv_model.specs.Conditions.{Row, first_refusal}

-- a check by rows: it refuses by the first one that applies, and passes if none does
abbrev pub Checks : {A : Type 0} → List Row → Result A Refusal → Type 0
Checks rows (Ok x) = first_refusal rows ≡ None
Checks rows (Err r) = first_refusal rows ≡ Some r
