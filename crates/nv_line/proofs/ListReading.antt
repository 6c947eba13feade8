-- A list of identifiers that is read piece by piece.
use Rattle.std.proofs.Common.{◌≡◌, ◌∙◌, ℕ, ◌+◌, ◌<◌, ◌≤◌, ap, refl, sym, arith}
use Rattle.std.proofs.Common.{append-nil, append_assoc, List, [], ◌∷◌, ◌++◌, Option, Some, None, drop, get_or, length}
use Rattle.std.proofs.Common.{length-append, option_and_then, option_map}
use Rattle.std.proofs.lemmas.List.{at_drop_all, at_drop_more}
use Rattle.std.specs.List.{slice_split}
use Rattle.clap.specs.Words.{Text}
use Rattle.nv_layout.specs.Limits.{most_cntlids}
use Rattle.nv_line.specs.Values.{identifiers_in, is_comma, list_in}
use Rattle.nv_line.specs.Values.{number_in}

-- the identifiers of the first n pieces, followed by those of the rest
pub record IsReadTo (pieces : List Text) (ids : List ℕ) (n : ℕ) : Type 0 where
  pub count : length ids ≡ n
  pub room : n ≤ most_cntlids
  pub rest : identifiers_in pieces ≡ option_map (λ ns. ids ++ ns) (identifiers_in (drop n pieces))

-- the identifiers of the rest are the next piece, if it is a number of 16 bits, and the identifiers after it
after_piece : (pieces : List Text) (n : ℕ) (p : Text)
    → (n < length pieces) × (p ≡ get_or pieces n p)
    → identifiers_in (drop n pieces)
    ≡ option_and_then (λ x. option_map (λ ns. x ∷ ns) (identifiers_in (drop (n + 1) pieces)))
    (number_in 0 65535 p)
unfolding identifiers_in
after_piece pieces n p turn =
    at_drop_more identifiers_in pieces n p turn.0
    ∙ ap (λ q. identifiers_in (q ∷ drop (n + 1) pieces)) (sym turn.1)

-- an element put before an optional list, and others before that, are the others and the element before the list
one_more : (ids : List ℕ) (x : ℕ) (o : Option (List ℕ))
    → option_map (λ ns. ids ++ ns) (option_map (λ ns. x ∷ ns) o)
    ≡ option_map (λ ns. (ids ++ x ∷ []) ++ ns) o
one_more ids x (Some ns) = ap Some (sym (append_assoc ids (x ∷ []) ns))
one_more ids x None = refl

-- a piece that is a number of 16 bits adds it to the identifiers that were read
pub piece_read : (pieces : List Text) (ids : List ℕ) (n : ℕ) (p : Text) (x : ℕ)
    → IsReadTo pieces ids n → n < most_cntlids
    → (n < length pieces) × (p ≡ get_or pieces n p) → number_in 0 65535 p ≡ Some x
    → IsReadTo pieces (ids ++ x ∷ []) (n + 1)
piece_read pieces ids n p x so room turn number = record {
  room = omega (arith, room);
  count = length-append ids (x ∷ []) ∙ ap (λ m. m + 1) so.count;
  rest = so.rest
      ∙ ap (option_map (λ ns. ids ++ ns)) (after_piece pieces n p turn
      ∙ ap (option_and_then (λ y. option_map (λ ns. y ∷ ns) (identifiers_in (drop (n + 1) pieces)))) number)
      ∙ one_more ids x (identifiers_in (drop (n + 1) pieces));
}

-- ---- the three ends

-- a text with no more pieces than a list has room for is the list of their identifiers
listed : (text : Text) → length (slice_split is_comma text) ≤ most_cntlids
    → list_in text ≡ identifiers_in (slice_split is_comma text)
unfolding list_in
listed text h = grind (arith, h)

-- when all pieces were read, the identifiers are the list of the text
pub all_read : (text : Text) (ids : List ℕ) (n : ℕ) → IsReadTo (slice_split is_comma text) ids n
    → length (slice_split is_comma text) ≤ n → Some ids ≡ list_in text
unfolding identifiers_in
all_read text ids n so end =
    let pieces = slice_split is_comma text in
    sym (listed text (omega (arith, end, so.room))
    ∙ so.rest
    ∙ ap (option_map (λ ns. ids ++ ns)) (at_drop_all identifiers_in pieces n end)
    ∙ ap Some (append-nil ids))

-- a text with more pieces than a list has room for is no list
pub too_many : (text : Text) → most_cntlids < length (slice_split is_comma text) → None ≡ list_in text
unfolding list_in
too_many text h = grind (arith, h)

-- a text with a piece that is no identifier is no list
either_none : (text : Text)
    → identifiers_in (slice_split is_comma text) ≡ None → None ≡ list_in text
unfolding list_in
either_none text none = grind (arith, none)

-- a text with a piece that is no number of 16 bits is no list
pub no_number : (text : Text) (ids : List ℕ) (n : ℕ) (p : Text)
    → IsReadTo (slice_split is_comma text) ids n
    → (n < length (slice_split is_comma text)) × (p ≡ get_or (slice_split is_comma text) n p)
    → number_in 0 65535 p ≡ None → None ≡ list_in text
no_number text ids n p so turn number =
    let pieces = slice_split is_comma text in
    let none : identifiers_in pieces ≡ None =
    so.rest
    ∙ ap (option_map (λ ns. ids ++ ns)) (after_piece pieces n p turn
    ∙ ap (option_and_then (λ y. option_map (λ ns. y ∷ ns) (identifiers_in (drop (n + 1) pieces)))) number) in
    either_none text none
