-- A table of fields: its bytes hold each field's value.
use Rattle.std.proofs.Common.{◌≡◌, ◌∙◌, ℕ, Bool, true, zero, suc, ◌&&◌, nat_le, ◌+◌, ◌*◌, ◌^◌, ◌<◌, rules}
use Rattle.std.proofs.Common.{◌≤◌, ap, refl, sym, arith, append-nil, List, [], ◌∷◌, ◌++◌, take}
use Rattle.std.proofs.Common.{drop, fold, length}
use Rattle.std.specs.List.{AllByRecursion, flat_map}
use Rattle.std.proofs.lemmas.List.{drop-drop, drop-take, take-take}
use Rattle.std.proofs.Math.Seq.{drop-append_seam, take-append_seam}
use Rattle.byteorder.specs.Endian.{little_bytes, little_from}
use Rattle.byteorder.specs.Numbers.{length-bytes_low_first, little_from-take}
use Rattle.byteorder.specs.Numbers.{little_number-reads_back}
use Rattle.nv_layout.specs.inner.Parts.{Fits, Holds, is_table}
use Rattle.nv_layout.specs.Parts.{Part, bytes_of, laid_out, number_at, numbers_at}
use Rattle.nv_layout.specs.Parts.{start_of, placed, text_at, width_of, zeros}
use Rattle.nv_layout.proofs.PartLaws.{IsSized, length-placed, length_zeros, text_at-placed}
use Rattle.nv_layout.proofs.PartLaws.{text_at-placed_before, times_suc}

-- ---- places

-- if a test of a ≤ b and a further test are both true, then a ≤ b and the further one is true
both_true : (a b : ℕ) (rest : Bool) → (nat_le a b && rest) ≡ true → (a ≤ b) × (rest ≡ true)
both_true a b rest h = (grind (arith, h), grind (arith, h))

-- a table of fields begins at or before the end of its bytes
table_end : (from size : ℕ) (ps : List Part) → is_table from size ps ≡ true → from ≤ size
table_end from size [] t = grind (arith, t)
table_end from size (p ∷ ps) t =
    let split = both_true from (start_of p) _ t in
    let later = table_end (start_of p + width_of p) size ps split.1 in
    omega (arith, split.0)

-- bytes over which all fields of a table are written have as many bytes as before
length-fold_placed : (b : List ℕ) (from size : ℕ) (ps : List Part) → is_table from size ps ≡ true
    → AllByRecursion IsSized ps → length b ≡ size → length (fold placed b ps) ≡ size
length-fold_placed b from size [] t s e = e
length-fold_placed b from size (p ∷ ps) t s e =
    let split = both_true from (start_of p) _ t in
    let later = table_end (start_of p + width_of p) size ps split.1 in
    length-fold_placed (placed b p) (start_of p + width_of p) size ps split.1 s.1
    (length-placed b p s.0 (omega (arith, later)) ∙ e)

-- a record has as many bytes as its size
pub length-laid_out : (size : ℕ) (ps : List Part) → is_table 0 size ps ≡ true
    → AllByRecursion IsSized ps
    → length (laid_out size ps) ≡ size
length-laid_out size ps t s = length-fold_placed (zeros size) 0 size ps t s (length_zeros size)

-- bytes before a table's fields don't change
before_table : (b : List ℕ) (from size : ℕ) (ps : List Part) → is_table from size ps ≡ true
    → AllByRecursion IsSized ps → length b ≡ size → (at n : ℕ) → at + n ≤ from
    → text_at at n (fold placed b ps) ≡ text_at at n b
before_table b from size [] t s e at n h = refl
before_table b from size (p ∷ ps) t s e at n h =
    let split = both_true from (start_of p) _ t in
    let later = table_end (start_of p + width_of p) size ps split.1 in
    let same = length-placed b p s.0 (omega (arith, later)) in
    before_table (placed b p) (start_of p + width_of p) size ps split.1 s.1 (same ∙ e) at n
    (omega (arith, split.0))
    ∙ text_at-placed_before b p at n (omega (arith, split.0)) (omega (arith, later))

-- the bytes have the field's bytes at its place
abbrev Stands : List ℕ → Part → Type 0
Stands b p = text_at (start_of p) (width_of p) b ≡ bytes_of p

-- after all fields of a table are written, the bytes have each of them at its place
all_stand : (b : List ℕ) (from size : ℕ) (ps : List Part) → is_table from size ps ≡ true
    → AllByRecursion IsSized ps → length b ≡ size → AllByRecursion (Stands (fold placed b ps)) ps
all_stand b from size [] t s e = tt
all_stand b from size (p ∷ ps) t s e =
    let split = both_true from (start_of p) _ t in
    let later = table_end (start_of p + width_of p) size ps split.1 in
    let same = length-placed b p s.0 (omega (arith, later)) in
    let here = before_table (placed b p) (start_of p + width_of p) size ps split.1 s.1 (same
    ∙ e) (start_of p) (width_of p) (omega arith)
    ∙ text_at-placed b p s.0 (omega (arith, later)) in
    (here, all_stand (placed b p) (start_of p + width_of p) size ps split.1 s.1 (same ∙ e))

-- ---- values

-- a number that fits its width is read from the bytes that have it at its place
number_back : (at width x : ℕ) (bytes : List ℕ) → x < 256 ^ width
    → text_at at width bytes ≡ little_bytes width x → number_at at width bytes ≡ x
unfolding text_at number_at
number_back at width x bytes f e =
    sym (little_from-take 0 width width (drop at bytes) (omega arith))
    ∙ ap (little_from 0 width) (e ∙ sym (append-nil (little_bytes width x)))
    ∙ little_number-reads_back width x [] f

-- the bytes of an array are the bytes of its first number and then the bytes of the others
first_and_rest : (at width n x : ℕ) (rest bytes : List ℕ)
    → text_at at (width * suc n) bytes ≡ little_bytes width x ++ rest
    → (text_at at width bytes ≡ little_bytes width x) × (text_at (at + width) (width * n) bytes
    ≡ rest)
unfolding text_at
first_and_rest at width n x rest bytes e =
    let size : length (little_bytes width x) ≡ width = length-bytes_low_first 0 width x in
    let whole : take (width + width * n) (drop at bytes) ≡ little_bytes width x ++ rest =
    ap (λ m. take m (drop at bytes)) (sym (times_suc width n)) ∙ e in (
      sym (take-take width (width + width * n) (drop at bytes) (omega arith))
          ∙ ap (take width) whole
          ∙ ap (λ m. take m (little_bytes width x ++ rest)) (sym size)
          ∙ take-append_seam (little_bytes width x) rest,
      ap (take (width * n)) (sym (drop-drop width at bytes))
          ∙ sym (drop-take width (width * n) (drop at bytes))
          ∙ ap (drop width) whole
          ∙ ap (λ m. drop m (little_bytes width x ++ rest)) (sym size)
          ∙ drop-append_seam (little_bytes width x) rest,
    )

-- numbers that fit their width are read from the bytes that have them one after the other
numbers_back : (at width count : ℕ) (xs bytes : List ℕ) → length xs ≡ count
    → AllByRecursion (λ x. x < 256 ^ width) xs
    → text_at at (width * count) bytes ≡ flat_map (little_bytes width) xs
    → numbers_at at width count bytes ≡ xs
unfolding numbers_at
numbers_back at width zero [] bytes l f e = refl
numbers_back at width (suc n) [] bytes l f e = absurd (omega arith)
numbers_back at width zero (x ∷ xs) bytes l f e = absurd (omega arith)
numbers_back at width (suc n) (x ∷ xs) bytes l f e =
    let split = first_and_rest at width n x (flat_map (little_bytes width) xs) bytes e in
    (λ i. number_back at width x bytes f.0 split.0 i ∷ numbers_back (at + width) width n xs bytes
    (omega arith) f.1 split.1 i)

-- a field that fits is read from the bytes that have it at its place
value_back : (bytes : List ℕ) (p : Part) → Fits p → Stands bytes p → Holds bytes p
value_back bytes p h e = search (rules, number_back, numbers_back)

-- fields that fit are each read from the bytes that have all of them at their places
values_back : (bytes : List ℕ) (ps : List Part) → AllByRecursion Fits ps
    → AllByRecursion (Stands bytes) ps → AllByRecursion (Holds bytes) ps
values_back bytes [] f e = tt
values_back bytes (p ∷ ps) f e = (value_back bytes p f.0 e.0, values_back bytes ps f.1 e.1)

-- the array or text of a field that fits has the right length
sized : (p : Part) → Fits p → IsSized p
sized p h = search rules

-- the arrays and texts of fields that all fit have the right lengths
all_sized : (ps : List Part) → AllByRecursion Fits ps → AllByRecursion IsSized ps
all_sized [] f = tt
all_sized (p ∷ ps) f = (sized p f.0, all_sized ps f.1)

-- every field of a table is read back
pub table_back : (size : ℕ) (ps : List Part) → is_table 0 size ps ≡ true → AllByRecursion Fits ps
    → AllByRecursion (Holds (laid_out size ps)) ps
table_back size ps t f = search (rules, values_back, all_stand, all_sized, length_zeros)
