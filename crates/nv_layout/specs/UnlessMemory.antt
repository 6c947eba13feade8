-- The result of a call that may run out of memory.
use Rattle.std.specs.Prelude.{◌≡◌, ◌⊎◌, Result, Ok, Err}

-- the result is the answer, as `view` sees it, unless memory ran out, which is the error `memory`
abbrev pub IsUnlessMemory : {X Y E : Type 0} → E → (X → Y) → Result X E → Result Y E → Type 0
IsUnlessMemory memory view (Ok x) answer = answer ≡ Ok (view x)
IsUnlessMemory memory view (Err e) answer = (e ≡ memory) ⊎ (answer ≡ Err e)
