-- Bytes that are split at their newlines.
use Rattle.nv_script.proofs.Words.{[], ℕ, ◌++◌, ◌+◌, ◌<◌, ◌∙◌, ◌∷◌, ◌≡◌, Bool, List, None, Nowhere, Option, Passes}
use Rattle.nv_script.proofs.Words.{Pieces, Some, State, after, ap, append-nil, append_assoc, arith, as_line}
use Rattle.nv_script.proofs.Words.{buffer_after, buffer_of, common_steps, cond, drop, eqb, false, fold, fold-append}
use Rattle.nv_script.proofs.Words.{get_or, is_byte, joined_lines, length, length-append, nat_le, nat_tests, pieces}
use Rattle.nv_script.proofs.Words.{refl, start, suc, sym, take, take-append-drop, take_more, true, whole, with_byte}

-- the bytes with i + 1 bytes of a piece are the bytes with i bytes of it and one more
pub taken-more : (bytes piece : List ℕ) (i : ℕ) → i < length piece
    → bytes ++ take (i + 1) piece ≡ (bytes ++ take i piece) ++ get_or piece i 0 ∷ []
taken-more bytes piece i h =
    ap (λ t. bytes ++ t) (take_more piece i 0 h) ∙ sym (append_assoc bytes (take i piece) (get_or piece i 0 ∷ []))

-- ---- one more byte

-- a line ends, or has one more byte
abbrev pub with_line : Pieces → Pieces
with_line p = record { ended = p.ended ++ p.last ∷ []; last = [] }

-- the last piece has one more byte
abbrev in_line : Pieces → ℕ → Pieces
in_line p b = record { ended = p.ended; last = p.last ++ b ∷ [] }

-- pieces with this last one
abbrev with_last : Pieces → List ℕ → Pieces
with_last p last = record { ended = p.ended; last = last }

-- the pieces of xs ++ ys are the pieces of xs after the bytes of ys were read one by one
pieces-append : (xs ys : List ℕ) → pieces (xs ++ ys) ≡ fold with_byte (pieces xs) ys
pieces-append xs ys = fold-append with_byte (record { ended = []; last = [] }) xs ys

-- a newline ends the last piece
pub pieces-newline : (xs : List ℕ) (b : ℕ) → b ≡ 10 → pieces (xs ++ b ∷ []) ≡ with_line (pieces xs)
pieces-newline xs b e = pieces-append xs (b ∷ []) ∙ ap (with_byte (pieces xs)) e

-- none of these bytes is a newline
abbrev pub HasNoNewline : List ℕ → Type 0
HasNoNewline bytes = Nowhere (Passes (is_byte 10) bytes) 0 (length bytes)

-- what isn't true is false
not_true : (t : Bool) → ¬ (t ≡ true) → t ≡ false
not_true true h = absurd (h refl)
not_true false h = refl

-- reading bytes without a newline adds them to the last piece
fold-others : (p : Pieces) (bytes : List ℕ) → HasNoNewline bytes
    → fold with_byte p bytes ≡ record { ended = p.ended; last = p.last ++ bytes }
fold-others p [] none = ap (λ (l : List ℕ). with_last p l) (sym (append-nil p.last))
fold-others p (b ∷ bytes) none =
    let other : eqb b 10 ≡ false = not_true (eqb b 10) (none 0 (omega arith) (omega arith)) in
    let later : HasNoNewline bytes = λ k low high is. none (suc k) (omega arith) (omega arith) is in
    ap (λ t. fold with_byte (cond t (with_line p) (in_line p b)) bytes) other
    ∙ fold-others (in_line p b) bytes later
    ∙ ap (λ (l : List ℕ). with_last p l) (append_assoc p.last (b ∷ []) bytes)

-- the pieces of xs and bytes without a newline are the pieces of xs with the bytes added to the last one
pub pieces-others : (xs bytes : List ℕ) → HasNoNewline bytes
    → pieces (xs ++ bytes) ≡ record { ended = (pieces xs).ended; last = (pieces xs).last ++ bytes }
pieces-others xs bytes none = pieces-append xs bytes ∙ fold-others (pieces xs) bytes none

-- a script with one more line leaves what the line leaves after the others
pub whole-more : (s : State) (lines : List (List ℕ)) (line : List ℕ)
    → whole s (lines ++ line ∷ []) ≡ after (whole s lines) line
whole-more s lines line = fold-append after (start s) lines (line ∷ [])

-- ---- a line that has ended stays

-- the first lines that have ended in q after these bytes are the lines that have ended in p
abbrev More : Pieces → List ℕ → Pieces → Type 0
More p bytes q = (later : List (List ℕ)) × ((fold with_byte q bytes).ended ≡ p.ended ++ later)

-- the lines that have ended stay when more bytes are read
ended-stay : (p : Pieces) (bytes : List ℕ) → More p bytes p
ended-stay p [] = ([], sym (append-nil p.ended))
ended-stay p (b ∷ bytes) = at_test (ended-stay (with_line p) bytes) (ended-stay (in_line p b) bytes) (eqb b 10)
  where
    at_test : More (with_line p) bytes (with_line p) → More (in_line p b) bytes (in_line p b) → (t : Bool)
        → More p bytes (cond t (with_line p) (in_line p b))
    at_test h k true = (p.last ∷ h.0, h.1 ∙ append_assoc p.ended (p.last ∷ []) h.0)
    at_test h k false = k

-- the line that a newline ends is among the lines that have ended in all the bytes
pub line-among : (xs ys : List ℕ) (b : ℕ) → b ≡ 10
    → (later : List (List ℕ)) × ((pieces ((xs ++ b ∷ []) ++ ys)).ended ≡ (pieces xs).ended ++ (pieces xs).last ∷ later)
line-among xs ys b e =
    let p = pieces xs in
    let s = ended-stay (with_line p) ys in
    let q : pieces ((xs ++ b ∷ []) ++ ys) ≡ fold with_byte (with_line p) ys =
    pieces-append (xs ++ b ∷ []) ys ∙ ap (λ x. fold with_byte x ys) (pieces-newline xs b e) in
    (s.0, ap (λ (x : Pieces). x.ended) q ∙ s.1 ∙ append_assoc p.ended (p.last ∷ []) s.0)

-- the same if the newline is at an index of another piece
pub piece-among : (bytes piece : List ℕ) (i : ℕ) → i < length piece → get_or piece i 0 ≡ 10
    → (later : List (List ℕ))
    × ((pieces (bytes ++ piece)).ended
    ≡ (pieces (bytes ++ take i piece)).ended ++ (pieces (bytes ++ take i piece)).last ∷ later)
piece-among bytes piece i h e =
    let xs = bytes ++ take i piece in
    let b = get_or piece i 0 in
    let ys = drop (i + 1) piece in
    let whole : bytes ++ piece ≡ (xs ++ b ∷ []) ++ ys =
    ap (λ t. bytes ++ t) (sym (take-append-drop (i + 1) piece)) ∙ sym (append_assoc bytes (take (i + 1) piece) ys)
    ∙ ap (λ t. t ++ ys) (taken-more bytes piece i h) in
    let among = line-among xs ys b e in
    (among.0, ap (λ xs. (pieces xs).ended) whole ∙ among.1)

-- a last piece with a byte is a line
pub as_line-some : (piece : List ℕ) → 0 < length piece → as_line piece ≡ piece ∷ []
as_line-some [] h = absurd (omega arith)
as_line-some (b ∷ bs) h = refl

-- the buffer of a line after more bytes is the buffer of the longer line
pub buffer_after-buffer_of : (line bytes : List ℕ) → buffer_after (buffer_of line) bytes ≡ buffer_of (line ++ bytes)
buffer_after-buffer_of line bytes = at_test (nat_le (length line) 4095) refl
  where
    too_long : (t : Bool) → nat_le (length line) 4095 ≡ false → nat_le (length (line ++ bytes)) 4095 ≡ t → t ≡ false
    too_long t e f = grind (arith, nat_tests, length-append line bytes)

    at_test : (t : Bool) → nat_le (length line) 4095 ≡ t
        → buffer_after (cond t (Some line) None) bytes ≡ buffer_of (line ++ bytes)
    at_test true e = refl
    at_test false e = grind (arith, common_steps)

-- a line whose buffer isn't the empty one has a byte
pub buffer_of-some : (line : List ℕ) → (buffer_of line ≡ Some [] → ⊥) → 0 < length line
buffer_of-some [] h = absurd (h refl)
buffer_of-some (b ∷ bs) h = omega arith

-- a last piece whose buffer is the empty one isn't a line
pub buffer_of-empty : (line : List ℕ) → buffer_of line ≡ Some [] → as_line line ≡ []
buffer_of-empty [] e = refl
buffer_of-empty (b ∷ bs) e = at_test (nat_le (length (b ∷ bs)) 4095) e
  where
    at_test : (t : Bool) → ◌≡◌ {A = Option (List ℕ)} (cond t (Some (b ∷ bs)) None) (Some []) → as_line (b ∷ bs) ≡ []
    at_test true e = cc
    at_test false e = cc

-- ---- lengths

-- the bytes of several lines and of more lines are joined one after the other
joined-append : (xs ys : List (List ℕ)) → joined_lines (xs ++ ys) ≡ joined_lines xs ++ joined_lines ys
joined-append [] ys = refl
joined-append (x ∷ xs) ys =
    ap (λ z. (x ++ 10 ∷ []) ++ z) (joined-append xs ys)
    ∙ sym (append_assoc (x ++ 10 ∷ []) (joined_lines xs) (joined_lines ys))

-- one more line adds its bytes and a newline
pub length-joined : (lines : List (List ℕ)) (line : List ℕ)
    → length (joined_lines (lines ++ line ∷ [])) ≡ length (joined_lines lines) + length line + 1
length-joined lines line = grind (arith, common_steps, joined-append, append-nil, length-append)

-- how many bytes the pieces have, with the newlines of the lines that have ended
size : Pieces → ℕ
size p = length (joined_lines p.ended) + length p.last

-- reading one more byte makes the pieces one byte longer
size-byte : (p : Pieces) (b : ℕ) → size (with_byte p b) ≡ size p + 1
unfolding size
size-byte p b = at_test (eqb b 10)
  where
    at_test : (t : Bool) → size (cond t (with_line p) (in_line p b)) ≡ size p + 1
    at_test true = omega (arith, length-joined p.ended p.last)
    at_test false = omega (arith, length-append p.last (b ∷ []))

-- reading bytes makes the pieces as many bytes longer
size-fed : (p : Pieces) (bytes : List ℕ) → size (fold with_byte p bytes) ≡ size p + length bytes
size-fed p [] = omega arith
size-fed p (b ∷ bytes) = omega (arith, size-fed (with_byte p b) bytes, size-byte p b)

-- the pieces have as many bytes as the script
pub length-pieces : (bytes : List ℕ)
    → length (joined_lines (pieces bytes).ended) + length (pieces bytes).last ≡ length bytes
unfolding size
length-pieces bytes = omega (arith, size-fed (record { ended = []; last = [] }) bytes)
