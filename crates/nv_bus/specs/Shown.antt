-- What an observer is shown of the entries that a controller takes.
use Rattle.std.specs.Prelude.{◌≡◌, ℕ, List, [], ◌∷◌}
use Rattle.nv_bus.specs.declared.exchange.Exchange.{Exchange}

-- an observer was shown these of controller c, one after another, and nothing else
abbrev pub AreShown : {O : Type 0} → (O → ℕ → Exchange → O → Type 0) → ℕ → List Exchange → O → O → Type 0
AreShown was_shown c [] old new = new ≡ old
AreShown {O} was_shown c (e ∷ es) old new = (mid : O) × was_shown old c e mid × AreShown was_shown c es mid new
