-- Lists of identifiers that end at the first zero.
use Rattle.std.proofs.lemmas.Bool.Decides.{nat_tests}
use Rattle.std.proofs.Common.{◌≡◌, ◌≢◌, ◌∙◌, ℕ, zero, suc, ◌+◌, ◌-◌, ◌*◌, ◌^◌, ◌<◌, ◌≤◌, ap, refl, rules}
use Rattle.std.proofs.Common.{sym, not, arith, false, List, [], ◌∷◌, ◌++◌, drop}
use Rattle.std.proofs.Common.{take, length, get_or}
use Rattle.std.specs.List.{AllByRecursion, before_first, flat_map, prefix_len}
use Rattle.std.proofs.lemmas.Bool.{eqb-true, false_from_ne_true}
use Rattle.std.proofs.lemmas.Grind.{common_steps}
use Rattle.std.proofs.lemmas.List.{drop-replicate, drop_all}
use Rattle.byteorder.specs.Endian.{little_bytes}
use Rattle.nv_layout.specs.NsList.{is_zero, padded}
use Rattle.nv_layout.specs.Parts.{number_at, numbers, numbers_at, placed, zeros}
use Rattle.nv_layout.proofs.PartLaws.{get_or-numbers_at, length-numbers_at, length_zeros}

-- ---- the numbers before the first zero

-- a first number that isn't zero is the first of the numbers before the first zero
before_first-cons : (x : ℕ) (xs : List ℕ) → is_zero x ≡ false
    → x ∷ before_first is_zero xs ≡ before_first is_zero (x ∷ xs)
before_first-cons x xs h =
    let n = prefix_len (λ y. not (is_zero y)) xs in
    let one : suc n ≡ 1 + n = omega arith in
    rw h (ap (λ m. take m (x ∷ xs)) one)

-- ys are the numbers of xs before the first zero, if they are the first of xs, none is zero and the next one is
is_before_zero : (xs ys : List ℕ) → length ys ≤ length xs
    → ((k : ℕ) → k < length ys → get_or ys k 0 ≡ get_or xs k 0)
    → ((k : ℕ) → k < length ys → get_or ys k 0 ≢ 0)
    → (length ys < length xs → get_or xs (length ys) 0 ≡ 0) → ys ≡ before_first is_zero xs
is_before_zero [] [] size same full end = refl
is_before_zero (x ∷ xs) [] size same full end = let first : x ≡ 0 =
    end (omega arith) in rw first refl
is_before_zero [] (y ∷ ys) size same full end = absurd (omega arith)
is_before_zero (x ∷ xs) (y ∷ ys) size same full end =
    let first : y ≡ x = same 0 (omega arith) in
    let some : y ≢ 0 = full 0 (omega arith) in
    let test : is_zero x ≡ false =
    false_from_ne_true (is_zero x) (λ t. some (first ∙ eqb-true x 0 t)) in
    let rest = is_before_zero xs ys (omega arith)
    (λ k below. let at : get_or ys k 0 ≡ get_or xs k 0 = same (suc k) (omega arith) in at)
    (λ k below. let at : get_or ys k 0 ≢ 0 = full (suc k) (omega arith) in at)
    (λ more. let at : get_or xs (length ys) 0 ≡ 0 = end (omega arith) in at) in
    (λ i. first i ∷ rest i) ∙ before_first-cons x xs test

-- a list that was read up to the first zero or the end is the numbers before the first zero
pub list_read : (n : ℕ) (bytes list : List ℕ) (i : ℕ) → i ≤ n → length list ≡ i
    → ((k : ℕ) → k < i → get_or list k 0 ≡ number_at (4 * k) 4 bytes)
    → ((k : ℕ) → k < i → get_or list k 0 ≢ 0)
    → (i < n → number_at (4 * i) 4 bytes ≡ 0) → list ≡ before_first is_zero (numbers_at 0 4 n bytes)
list_read n bytes list i h size read full end =
    let whole = length-numbers_at 0 4 n bytes in
    is_before_zero (numbers_at 0 4 n bytes) list (omega (arith, whole))
    (λ k below. read k (omega arith)
    ∙ ap (λ m. number_at m 4 bytes) (omega arith)
    ∙ sym (get_or-numbers_at 0 4 n bytes k (omega arith)))
    (λ k below. full k (omega arith))
    (λ more. ap (λ m. get_or (numbers_at 0 4 n bytes) m 0) size
    ∙ get_or-numbers_at 0 4 n bytes i (omega (arith, whole))
    ∙ ap (λ m. number_at m 4 bytes) (omega arith)
    ∙ end (omega (arith, whole)))

-- ---- a list and the zeros after it

-- each number is an identifier: it isn't 0, and it has 32 bits
abbrev pub AreIdentifiers : List ℕ → Type 0
AreIdentifiers = AllByRecursion (λ x. (x ≢ 0) × (x < 2 ^ 32))

-- the numbers before the first zero of xs ++ ys are xs, if xs are identifiers and ys begins with a zero or is empty
before_first-append : (xs ys : List ℕ) → AreIdentifiers xs → before_first is_zero ys ≡ []
    → xs ≡ before_first is_zero (xs ++ ys)
before_first-append [] ys f e = sym e
before_first-append (x ∷ xs) ys f e = grind (arith, nat_tests, before_first-cons, before_first-append xs ys f.1 e)

-- before the first of n zeros there is no number
before_first-zeros : (n : ℕ) → before_first is_zero (zeros n) ≡ []
unfolding zeros
before_first-zeros n = search rules

-- the numbers before the first zero of padded identifiers are the identifiers
pub before_first-padded : (n : ℕ) (xs : List ℕ) → AreIdentifiers xs
    → before_first is_zero (padded n xs) ≡ xs
before_first-padded n xs f = search (rules, before_first-append, before_first-zeros)

-- n zeros are numbers of 32 bits
zeros_fit : (n : ℕ) → AllByRecursion (λ x. x < 2 ^ 32) (zeros n)
unfolding zeros
zeros_fit zero = tt
zeros_fit (suc n) = (omega arith, zeros_fit n)

-- identifiers and n zeros after them are numbers of 32 bits
append_fits : (xs : List ℕ) (n : ℕ) → AreIdentifiers xs → AllByRecursion (λ x. x < 2 ^ 32) (xs
    ++ zeros n)
append_fits [] n f = zeros_fit n
append_fits (x ∷ xs) n f = (f.0.1, append_fits xs n f.1)

-- padded identifiers are numbers of 32 bits
pub padded_fits : (n : ℕ) (xs : List ℕ) → AreIdentifiers xs → AllByRecursion (λ x. x < 2 ^ 32)
    (padded n xs)
padded_fits n xs f = append_fits xs (n - length xs) f

-- a list of at most n numbers has n numbers when it is padded
pub length-padded : (n : ℕ) (xs : List ℕ) → length xs ≤ n → length (padded n xs) ≡ n
length-padded n xs h = grind (arith, common_steps, length_zeros)

-- ---- the bytes of the list

-- the bytes of n zeros of four bytes each are 4 * n zeros
each_zero : (n : ℕ) → flat_map (little_bytes 4) (zeros n) ≡ zeros (4 * n)
unfolding zeros
each_zero zero = refl
each_zero (suc n) =
    ap (λ (rest : List ℕ). 0 ∷ 0 ∷ 0 ∷ 0 ∷ rest) (each_zero n)
    ∙ (let size : suc (suc (suc (suc (4 * n)))) ≡ 4 * suc n = omega arith in ap (λ m. zeros m) size)

-- without the first 4 * n of their bytes, `count` zeros are the bytes of count - n zeros
zeros_left : (n count : ℕ) → n ≤ count → drop (4 * n) (zeros (4 * count))
    ≡ flat_map (little_bytes 4) (zeros (count - n))
unfolding zeros
zeros_left n count h = search (rules, drop-replicate, each_zero)

-- without its first n elements, a list of n zeros is empty
none_left : (n : ℕ) → drop n (zeros n) ≡ []
none_left n = drop_all n (zeros n) (omega (arith, length_zeros n))

-- writing a list over zeros gives the same bytes with and without the zeros after the list
pub placed-padded : (count : ℕ) (ids : List ℕ) → length ids ≤ count
    → placed (zeros (4 * count)) (numbers 0 4 (length ids) ids)
    ≡ placed (zeros (4 * count)) (numbers 0 4 count (padded count ids))
unfolding placed
placed-padded count ids h = grind (arith, common_steps, zeros_left, none_left)
