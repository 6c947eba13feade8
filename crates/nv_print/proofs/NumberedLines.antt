-- Lines, one after another.
use Rattle.nv_print.proofs.Words.{[], ℕ, ◌++◌, ◌+◌, ◌<◌, ◌∙◌, ◌∷◌, ◌≡◌, List, ap, append-nil, append_assoc, arith}
use Rattle.nv_print.proofs.Words.{common_steps, get_or, length, lines_of, suc, take, zero}

module _ {A : Type 0} (line : ℕ → A → List ℕ) where
  -- the lines of i + 1 elements from number k on are the lines of the first i and the line of element i
  next_from : (k : ℕ) (xs : List A) (i : ℕ) (d : A) → i < length xs
      → lines_of line k (take (suc i) xs) ≡ lines_of line k (take i xs) ++ line (k + i) (get_or xs i d)
  next_from k [] i d h = absurd (omega arith)
  next_from k (x ∷ xs) zero d h = append-nil (line k x) ∙ (let at : k ≡ k + 0 = omega arith in ap (λ n. line n x) at)
  next_from k (x ∷ xs) (suc i) d h =
      let at : (k + 1) + i ≡ k + suc i = omega arith in
      let later = next_from (k + 1) xs i d (omega arith) in
      grind (arith, common_steps)

  -- the lines of the first i + 1 elements are the lines of the first i and the line of element i
  lines_of_next : (xs : List A) (i : ℕ) (d : A) → i < length xs
      → lines_of line 0 (take (i + 1) xs) ≡ lines_of line 0 (take i xs) ++ line i (get_or xs i d)
  lines_of_next xs i d h = grind (arith, common_steps, next_from)

  -- if the line of element i was added to a text with the lines of i elements after it, those of i + 1 are after it
  pub next_line : (text before after : List ℕ) (xs : List A) (i : ℕ) (x d : A) → i < length xs → x ≡ get_or xs i d
      → before ≡ text ++ lines_of line 0 (take i xs) → after ≡ before ++ line i x
      → after ≡ text ++ lines_of line 0 (take (i + 1) xs)
  next_line text before after xs i x d h e these this =
      cc (append_assoc text (lines_of line 0 (take i xs)) (line i (get_or xs i d)), lines_of_next xs i d h)
