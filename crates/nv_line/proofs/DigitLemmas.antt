-- The digits of a number.
use Rattle.std.proofs.Common.{◌≡◌, ◌≢◌, ◌∙◌, ◌&&◌, ◌^◌, ◌<◌, ◌≤◌, ℕ, ap, refl, sym, inl, inr, arith, rules, not, nat_lt}
use Rattle.std.proofs.Common.{get_or, Bool, true, false, if◌then◌else◌, List, [], ◌∷◌, Result, Ok, Err, Some, None}
use Rattle.std.proofs.Common.{option_and_then}
use Rattle.std.specs.List.{list_all}
use Rattle.std.specs.Char.{digit_value}
use Rattle.std.specs.Result.{result_ok}
use Rattle.std.specs.Str.Parse.{AllDigits, IsNumeral, ParsesUnsigned, digits_value}
use Rattle.std.proofs.lemmas.Str.Parse.{without_leading_plus_none}
use Rattle.std.proofs.lemmas.Bool.{cases_lt}
use Rattle.clap.proofs.WalkLemmas.{both}
use Rattle.clap.specs.Walk.{is_empty}
use Rattle.nv_line.specs.Values.{digits_of, within}

-- the greatest number of 64 bits
abbrev most_of_64 : ℕ
most_of_64 = 18446744073709551615

-- whether these are digits of the base, and at least one
abbrev is_numeral : ℕ → List ℕ → Bool
is_numeral base ds = not (is_empty ds) && list_all (λ d. nat_lt (digit_value d) base) ds

-- digits of a base pass the test for digits
all_in : (base : ℕ) (ds : List ℕ) → AllDigits base ds → list_all (λ d. nat_lt (digit_value d) base) ds ≡ true
all_in base [] h = refl
all_in base (d ∷ ds) h = let rest = all_in base ds h.1 in let first = h.0 in grind (arith, rest, first)

-- what passes the test for digits are digits of the base
all_out : (base : ℕ) (ds : List ℕ) → list_all (λ d. nat_lt (digit_value d) base) ds ≡ true → AllDigits base ds
all_out base [] h = tt
all_out base (d ∷ ds) h =
    let p = both (nat_lt (digit_value d) base) (list_all (λ e. nat_lt (digit_value e) base) ds) h in
    let low = p.0 in (grind (arith, low), all_out base ds p.1)

-- a numeral passes the test for numerals
numeral_in : (base : ℕ) (ds : List ℕ) → IsNumeral base ds → is_numeral base ds ≡ true
numeral_in base [] h = absurd (omega arith)
numeral_in base (d ∷ ds) h = let all = all_in base (d ∷ ds) h.1 in search (rules, all)

-- what passes the test for numerals is a numeral
numeral_out : (base : ℕ) (ds : List ℕ) → is_numeral base ds ≡ true → IsNumeral base ds
numeral_out base [] h = absurd (cc)
numeral_out base (d ∷ ds) h = (omega arith, all_out base (d ∷ ds) (both _ _ h).1)

-- a value of 64 bits that the test accepts is a number in the range
when_numeral : (b : Bool) (v : ℕ) → b ≡ true → v ≤ most_of_64
    → Some v ≡ option_and_then (within 0 most_of_64) (if b then Some v else None)
when_numeral b v e h = let is : within 0 most_of_64 v ≡ Some v = grind arith in rw e (sym is)

-- there is no number if the test accepts only a value above 64 bits
no_numeral : (b : Bool) (v : ℕ) → (b ≡ true → most_of_64 < v)
    → None ≡ option_and_then (within 0 most_of_64) (if b then Some v else None)
no_numeral true v h =
    let large = h refl in let none : within 0 most_of_64 v ≡ None = grind (arith, large) in sym none
no_numeral false v h = refl

-- a numeral that isn't a number of 64 bits has a value above the greatest one
too_large : (base : ℕ) (bs : List ℕ) → (IsNumeral base bs → digits_value base bs < 2 ^ 64 → ⊥)
    → is_numeral base bs ≡ true → most_of_64 < digits_value base bs
too_large base bs k b = elim (cases_lt most_of_64 (digits_value base bs))
    [ inl more ↦ more | inr less ↦ absurd (k (numeral_out base bs b) (omega arith)) ]

-- parsing bytes that don't begin with a plus sign gives the number of their digits, if it has 64 bits
pub digits_at : {E : Type 0} (base : ℕ) (bs : List ℕ) (r : Result ℕ E) → ParsesUnsigned 64 base bs r
    → get_or bs 0 0 ≢ 43 → result_ok r ≡ option_and_then (within 0 most_of_64) (digits_of base bs)
unfolding digits_of
digits_at base bs (Ok x) h n =
    let k = rw (without_leading_plus_none bs n) at h in
    ap Some k.1 ∙ when_numeral (is_numeral base bs) (digits_value base bs) (numeral_in base bs k.0.0) (omega arith)
digits_at base bs (Err e) h n =
    let k = rw (without_leading_plus_none bs n) at h in
    no_numeral (is_numeral base bs) (digits_value base bs) (λ b. too_large base bs (λ a v. k (a, v)) b)

-- bytes that begin with a plus sign have no number
pub plus_is_none : (base : ℕ) (bs : List ℕ) → base ≤ 16 → get_or bs 0 0 ≡ 43
    → None ≡ option_and_then (within 0 most_of_64) (digits_of base bs)
unfolding digits_of
plus_is_none base [] h e = refl
plus_is_none base (d ∷ ds) h e = no_numeral (is_numeral base (d ∷ ds)) (digits_value base (d ∷ ds)) (λ b.
    let low = (numeral_out base (d ∷ ds) b).1.0 in let at : digit_value 43 < base = rw e at low in absurd (omega arith))
