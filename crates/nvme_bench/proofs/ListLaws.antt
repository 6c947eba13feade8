-- Laws of lists.
use Rattle.std.proofs.Common.{◌≡◌, ◌-◌, ℕ, List, arith, drop, length, length-drop, take}
use Rattle.std.proofs.lemmas.List.{take_all}

-- taking as many elements as are left from a place on takes all of them
pub rest_of : {A : Type 0} (n : ℕ) (xs : List A) → take (length xs - n) (drop n xs) ≡ drop n xs
rest_of n xs = take_all (length xs - n) (drop n xs) (omega (arith, length-drop n xs))
