-- Steps that may fail, one after another.
use Rattle.std.specs.Prelude.{Result, Ok, Err}

-- the next step takes the result of the first, or the error of the first is the result
infixl 10 ◌>>=◌
abbrev pub ◌>>=◌ : {A B E : Type 0} → Result A E → (A → Result B E) → Result B E
(Ok x) >>= f = f x
(Err e) >>= f = Err e
