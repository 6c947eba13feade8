-- The part of a text that is shown.
use Rattle.std.proofs.Common.{◌≡◌, ◌∙◌, ◌⊎◌, inr, refl, ℕ, zero, suc, ◌+◌, ◌-◌, ◌<◌, ap, arith, Bool, false, true}
use Rattle.std.proofs.Common.{List, [], ◌∷◌, ◌++◌, append-nil, append_assoc, length, length-append, take, get_or, sym}
use Rattle.std.proofs.lemmas.Grind.{common_steps}
use Rattle.std.specs.Prelude.{◌==◌, not, replicate}
use Rattle.std.specs.Char.{is_ascii_whitespace}
use Rattle.std.specs.List.{suffix_len, take_while}
use Rattle.std.specs.Str.{IsAscii, IsTrimAsciiEnd, IsUtf8}
use Rattle.std.proofs.lemmas.Bool.Decides.{nat_tests}
use Rattle.std.proofs.lemmas.List.{get_or-take, replicate-append-replicate, reverse-append, take-append-le}
use Rattle.std.proofs.lemmas.List.Folds.{length-prefix_len}
use Rattle.std.proofs.lemmas.List.Sums.{prefix_len_passes, suffix_len_is, take_while-cons}
use Rattle.std.proofs.lemmas.Str.{IsUtf8-from_ascii, IsAscii-take}
use Rattle.std.proofs.lemmas.Str.Ascii.{IsAscii-from_reads}
use Rattle.nv_print.specs.Text.{is_printable, printable, without_trailing_spaces}

-- each byte of the printable beginning of some bytes is printable
pub each_printable : (bs : List ℕ) (k d : ℕ) → k < length (take_while is_printable bs)
    → is_printable (get_or (take_while is_printable bs) k d) ≡ true
each_printable bs k d h = grind (arith, common_steps, length-prefix_len, get_or-take, prefix_len_passes)

-- a printable byte is ASCII
low : (b : ℕ) → is_printable b ≡ true → b < 128
low b p = grind (arith, nat_tests)

-- a printable byte that is white space is a space
is_space : (b : ℕ) → is_printable b ≡ true → is_ascii_whitespace b ≡ true → (b == 32) ≡ true
is_space b p w = grind (arith, nat_tests)

-- a byte that isn't white space isn't a space
no_space : (b : ℕ) → is_ascii_whitespace b ≡ false → (b == 32) ≡ false
no_space b w = grind (arith, nat_tests)

-- white space at the end of printable ASCII is spaces
pub trimmed_is : (bs r : List ℕ) → IsTrimAsciiEnd (take_while is_printable bs) r → r ≡ printable bs
trimmed_is bs r (n, cut, len, within, from, before) =
    let s : List ℕ = take_while is_printable bs in
    let spaces : suffix_len (λ b. b == 32) s ≡ length s - n
    = suffix_len_is (λ b. b == 32) s n 0 within
    (λ k from_n high. is_space _ (each_printable bs k 0 high) (from k from_n high)) (λ h. no_space _ (before h)) in
    let left : n ≡ length s - suffix_len (λ b. b == 32) s = omega arith in
    cut ∙ ap (λ m. take m s) left

-- the printable part of some bytes is UTF-8
pub printable_is_utf8 : (bs r : List ℕ) → r ≡ printable bs → IsUtf8 r
printable_is_utf8 bs r is =
    let s : List ℕ = take_while is_printable bs in
    let ascii : IsAscii s = IsAscii-from_reads _ (length s) (omega arith) (λ k h. low _ (each_printable bs k 0 h)) in
    rw is (IsUtf8-from_ascii _ (IsAscii-take _ _ ascii))

-- ---- spaces at the end

-- with one more space at the end, the printable beginning is the same or has that space more
space_more : (bs : List ℕ)
    → (take_while is_printable (bs ++ 32 ∷ []) ≡ take_while is_printable bs)
    ⊎ (take_while is_printable (bs ++ 32 ∷ []) ≡ take_while is_printable bs ++ 32 ∷ [])
space_more [] = inr refl
space_more (y ∷ bs) = grind (arith, common_steps, take_while-cons is_printable y, space_more bs)

-- a space at the end is cut off
space_cut : (text : List ℕ) → without_trailing_spaces (text ++ 32 ∷ []) ≡ without_trailing_spaces text
space_cut text = grind (arith, common_steps, reverse-append, length-append, take-append-le)

-- one more space at the end doesn't change the printable part
printable_space : (bs : List ℕ) → printable (bs ++ 32 ∷ []) ≡ printable bs
printable_space bs = grind (arith, common_steps, space_more, space_cut)

-- spaces at the end don't change the printable part
pub printable_padded : (k : ℕ) (bs : List ℕ) → printable (bs ++ replicate k 32) ≡ printable bs
printable_padded zero bs = ap printable (append-nil bs)
printable_padded (suc k) bs =
    ap printable (sym (append_assoc bs (32 ∷ []) (replicate k 32)))
    ∙ printable_padded k (bs ++ 32 ∷ [])
    ∙ printable_space bs

-- if eight more spaces are cut off, the bytes are what is left and eight more spaces than before
pub padding_next : (bytes rest before last : List ℕ) (m n : ℕ) → rest ≡ before ++ last → last ≡ replicate 8 32
    → bytes ≡ rest ++ replicate m 32 → n ≡ 8 + m → bytes ≡ before ++ replicate n 32
padding_next bytes rest before last m n split spaces old more =
    let all = replicate-append-replicate {A = ℕ} 8 m 32 in
    cc (append_assoc before (replicate 8 32) (replicate m 32), all)

-- if false is the negation of a truth value, it is true
pub equal : (same : Bool) → false ≡ not same → true ≡ same
equal same e = grind (arith, nat_tests)
