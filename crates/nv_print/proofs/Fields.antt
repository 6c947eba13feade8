-- Texts to which one more field is added.
use Rattle.nv_print.proofs.Words.{[], ℕ, ◌++◌, ◌+◌, ◌<◌, ◌∙◌, ◌∷◌, ◌≡◌, Field, List, ap, append_assoc, ap₂}
use Rattle.nv_print.proofs.Words.{flat_map, get_or, length, sym, take}
use Rattle.std.proofs.lemmas.List.{flat_map_more, take_more}

infixr 5 ◌∷≡◌
-- fields and further fields that are equal form equal lists
pub ◌∷≡◌ : {x y : Field} {xs ys : List Field} → x ≡ y → xs ≡ ys → x ∷ xs ≡ y ∷ ys
e ∷≡ es = ap₂ (λ x xs. x ∷ xs) e es

-- lists of one field each are equal if the fields are
pub and_last : {x y : Field} → x ≡ y → x ∷ [] ≡ y ∷ []
and_last e = ap (λ x. x ∷ []) e

-- a text that was added to twice has both parts after it
pub two_more : {A : Type 0} (text a b : List A) → (text ++ a) ++ b ≡ text ++ (a ++ b)
two_more text a b = append_assoc text a b

-- a text that was added to four times has the four parts after it, one after the other
pub four_more : {A : Type 0} (text a b c d : List A) → (((text ++ a) ++ b) ++ c) ++ d ≡ text ++ (a ++ (b ++ (c ++ d)))
four_more text a b c d = simp append_assoc

-- a text that was added to five times has the five parts after it, one after the other
pub five_more : {A : Type 0} (text a b c d e : List A)
    → ((((text ++ a) ++ b) ++ c) ++ d) ++ e ≡ text ++ (a ++ (b ++ (c ++ (d ++ e))))
five_more text a b c d e = simp append_assoc

-- a text that was added to six times has the six parts after it, one after the other
pub six_more : {A : Type 0} (text a b c d e f : List A)
    → (((((text ++ a) ++ b) ++ c) ++ d) ++ e) ++ f ≡ text ++ (a ++ (b ++ (c ++ (d ++ (e ++ f)))))
six_more text a b c d e f = simp append_assoc

-- a text to which the parts of a format's line were added has the line after it
pub format_more : (text word number colon fields mark end : List ℕ)
    → (((((text ++ word) ++ number) ++ colon) ++ fields) ++ mark) ++ end
    ≡ text ++ ((word ++ (number ++ colon)) ++ (fields ++ (mark ++ end)))
format_more text word number colon fields mark end = simp append_assoc

-- a text to which the columns of a device were added has the device's line after it
pub columns_more : (text a b c d e f : List ℕ)
    → ((((((text ++ (a ++ 32 ∷ [])) ++ (b ++ 32 ∷ [])) ++ (c ++ 32 ∷ [])) ++ d) ++ 32 ∷ e) ++ 32 ∷ f) ++ 10 ∷ []
    ≡ text ++ (a ++ (32 ∷ b ++ (32 ∷ c ++ (32 ∷ d ++ (32 ∷ e ++ (32 ∷ f ++ 10 ∷ []))))))
columns_more text a b c d e f = simp append_assoc

-- a text with the texts of i elements after it, and one more, has the texts of i + 1 elements after it
pub flat_map_next : {A B : Type 0} (f : A → List B) (text : List B) (xs : List A) (i : ℕ) (d : A) → i < length xs
    → (text ++ flat_map f (take i xs)) ++ f (get_or xs i d) ≡ text ++ flat_map f (take (i + 1) xs)
flat_map_next f text xs i d h = flat_map_more f text (take i xs) (get_or xs i d)
    ∙ ap (λ ys. text ++ flat_map f ys) (sym (take_more xs i d h))

-- a text to which the parts of a field's line were added has the line after it
pub line_more : (text key room colon value end : List ℕ)
    → (((text ++ key) ++ (room ++ colon)) ++ value) ++ end ≡ text ++ ((key ++ room) ++ (colon ++ (value ++ end)))
line_more text key room colon value end = simp append_assoc

-- a text to which the parts of a field within a line were added has the field after it
pub within_more : (text key value : List ℕ)
    → (((text ++ 32 ∷ []) ++ key) ++ 58 ∷ []) ++ value ≡ text ++ (32 ∷ (key ++ 58 ∷ value))
within_more text key value = simp append_assoc
