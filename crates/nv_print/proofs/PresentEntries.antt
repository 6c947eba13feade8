-- The text of a log is that of the entries that it has, because those after them hold no error.
use Rattle.nv_print.proofs.Words.{[], ℕ, ◌++◌, ◌+◌, ◌-◌, ◌∷◌, ◌≡◌, ErrorEntry, List, ap, entries_text, entry_text}
use Rattle.nv_print.proofs.Words.{error_tokens, flat_map, length, lines_of, no_entry, refl, suc, take, zero}
use Rattle.std.proofs.Common.{replicate}

-- entries without an error after the others add no lines
lines_past : (i : ℕ) (es : List ErrorEntry) (m : ℕ)
    → lines_of entry_text i (es ++ replicate m no_entry) ≡ lines_of entry_text i es
lines_past i [] zero = refl
lines_past i [] (suc m) = lines_past (i + 1) [] m
lines_past i (e ∷ es) m = ap (λ t. entry_text i e ++ t) (lines_past (i + 1) es m)

-- entries without an error after the others add no tokens
tokens_past : (es : List ErrorEntry) (m : ℕ)
    → flat_map error_tokens (es ++ replicate m no_entry) ≡ flat_map error_tokens es
tokens_past [] zero = refl
tokens_past [] (suc m) = tokens_past [] m
tokens_past (e ∷ es) m = ap (λ ts. error_tokens e ++ ts) (tokens_past es m)

-- the first n entries are those that a log has
module _ (es : List ErrorEntry) (n : ℕ) (past : es ≡ take n es ++ replicate (length es - n) no_entry)
    (i : ℕ) (all : i ≡ n) where
  -- the first n entries have the same text as all of them
  pub text_present : entries_text (take i es) ≡ entries_text es
  text_present = cc (lines_past 0 (take n es) (length es - n))

  -- the first n entries have the same tokens as all of them
  pub tokens_present : flat_map error_tokens (take i es) ≡ flat_map error_tokens es
  tokens_present = cc (tokens_past (take n es) (length es - n))
