-- Numbers in ascending order, listed one by one from the first one above a given one.
use Rattle.std.proofs.Common.{append-nil, ◌≡◌, ◌∙◌, ℕ, ◌+◌, ◌≤◌, ap, sym, refl, arith, List, [], ◌∷◌}
use Rattle.std.proofs.Common.{◌++◌, length, nat_lt}
use Rattle.std.specs.FinMap as map_of
use Rattle.nv_bits.specs.Above.{above}
use Rattle.nv_subsystem.proofs.Words.{count_by-le-length, len-entries, length-append, length-filter, length-map}
use Rattle.nv_subsystem.proofs.Words.{NumberMap}

-- a map has as many numbers as it lists
pub length-keys : {A : Type 0} (m : NumberMap A) → map_of.len m ≡ length (map_of.keys m)
length-keys m = omega (arith, len-entries m, length-map (map_of.entries m) (λ e. e.0))

-- `count` numbers are listed, and those above the last one are left
pub record Lists (numbers : List ℕ) (after : ℕ) (list : List ℕ) (last count : ℕ) : Type 0 where
  pub len : length list ≡ count
  pub rest : list ++ above last numbers ≡ above after numbers

-- if as many numbers are listed as there are, all numbers above the first one are listed
pub all_left : (numbers : List ℕ) (after : ℕ) (list : List ℕ) (last count : ℕ)
    → Lists numbers after list last count → length numbers ≤ count → list ≡ above after numbers
all_left numbers after list last count so_far full =
    sym (append-nil list) ∙ ap (λ t. list ++ t) (sym (empty (above last numbers) none)) ∙ so_far.rest
  where
    none : length (above last numbers) ≡ 0
    none = omega (
      arith,
      so_far.len,
      length-filter (λ n. nat_lt after n) numbers,
      count_by-le-length (λ n. nat_lt after n) numbers,
      length-append list (above last numbers),
      ap length so_far.rest,
    )

    empty : (ns : List ℕ) → length ns ≡ 0 → ns ≡ []
    empty [] h = refl
    empty (n ∷ ns) h = absurd (omega arith)
