-- A piece of a script, line by line.
use Rattle.nv_script.proofs.Words.{[], ℕ, ◌++◌, ◌+◌, ◌<◌, ◌∙◌, ◌∷◌, ◌≡◌, IsCutIn, IsFirstByte, Left, List, Option}
use Rattle.nv_script.proofs.Words.{RunEnd, Session, Some, Stands, State, after, ap, append-nil, append_assoc, arith}
use Rattle.nv_script.proofs.Words.{buffer_after, buffer_of, common_steps, eqb, get_or, get_or-append-add, get_or-take}
use Rattle.nv_script.proofs.Words.{is_byte, length, length-append, length-take-le, nat_tests, pieces, subst, sym, take}
use Rattle.nv_script.proofs.Words.{take-append-add, true, whole}
use Rattle.nv_script.proofs.PieceLaws.{HasNoNewline, buffer_after-buffer_of, pieces-newline, pieces-others, taken-more}
use Rattle.nv_script.proofs.PieceLaws.{whole-more}

-- the lines with newlines of these bytes are executed, and the last piece is in the buffer
abbrev pub Fed : State → List ℕ → Option (List ℕ) → Left → Session → Type 0
Fed s bytes line left session =
    (line ≡ buffer_of (pieces bytes).last) × Stands (whole s (pieces bytes).ended) left session

-- what was fed with some bytes was fed with bytes that are equal to them
Fed-same : (s : State) (xs ys : List ℕ) (line : Option (List ℕ)) (left : Left) (session : Session)
    → xs ≡ ys → Fed s ys line left session → Fed s xs line left session
Fed-same s xs ys line left session e fed = subst (λ (bytes : List ℕ). Fed s bytes line left session) (sym e) fed

-- feeding no further byte changes nothing
pub Fed-none : (s : State) (bytes : List ℕ) (line : Option (List ℕ)) (left : Left) (session : Session)
    → Fed s bytes line left session → Fed s (bytes ++ []) line left session
Fed-none s bytes line left session fed = Fed-same s (bytes ++ []) bytes line left session (append-nil bytes) fed

-- feeding bytes without a newline adds them to the line in the buffer
Fed-others : (s : State) (xs bytes : List ℕ) (line held : Option (List ℕ)) (left : Left) (session : Session)
    → HasNoNewline bytes → held ≡ buffer_after line bytes
    → Fed s xs line left session → Fed s (xs ++ bytes) held left session
Fed-others s xs bytes line held left session none is fed =
    grind (arith, common_steps, pieces-others, buffer_after-buffer_of)

-- feeding a newline executes the line before it and leaves an empty buffer
Fed-newline : (s : State) (xs : List ℕ) (b : ℕ) (held : Option (List ℕ)) (left : Left) (session : Session)
    → b ≡ 10 → held ≡ Some [] → Stands (after (whole s (pieces xs).ended) (pieces xs).last) left session
    → Fed s (xs ++ b ∷ []) held left session
Fed-newline s xs b held left session e is stands = grind (arith, common_steps, pieces-newline, whole-more)

-- ---- the first newline in the rest of a piece

-- the byte at the first newline is a newline
is_newline_at : (rest : List ℕ) (end : ℕ) → IsFirstByte (is_byte 10) rest (Some end) → get_or rest end 0 ≡ 10
is_newline_at rest end first = let is : eqb (get_or rest end 0) 10 ≡ true = first.1 in grind (arith, nat_tests)

-- no byte before the first newline is one
none_before : (rest : List ℕ) (end : ℕ) → IsFirstByte (is_byte 10) rest (Some end) → HasNoNewline (take end rest)
none_before rest end first = grind (arith, common_steps, length-take-le, get_or-take)

-- feeding the bytes up to the next newline puts its line into the buffer
pub Fed-line : (s : State) (bytes done rest : List ℕ) (end : ℕ) (line held : Option (List ℕ))
    (left : Left) (session : Session)
    → IsFirstByte (is_byte 10) rest (Some end) → held ≡ buffer_after line (take end rest)
    → Fed s (bytes ++ done) line left session → Fed s ((bytes ++ done) ++ take end rest) held left session
Fed-line s bytes done rest end line held left session first is fed =
    Fed-others s (bytes ++ done) (take end rest) line held left session (none_before rest end first) is fed

-- when the line in the buffer was executed, the bytes up to its newline were fed
pub Fed-executed : (s : State) (bytes done rest : List ℕ) (end : ℕ) (held : Option (List ℕ))
    (left : Left) (session : Session)
    → IsFirstByte (is_byte 10) rest (Some end) → held ≡ Some []
    → (let p = pieces ((bytes ++ done) ++ take end rest) in Stands (after (whole s p.ended) p.last) left session)
    → Fed s (bytes ++ (done ++ take (end + 1) rest)) held left session
Fed-executed s bytes done rest end held left session first is stands =
    grind (arith, common_steps, append_assoc, taken-more, Fed-same, Fed-newline, is_newline_at)

-- if the line in the buffer was cut short, it was cut short at a newline of the piece
pub cut_at : (cut : RunEnd) (s : State) (bytes piece done rest : List ℕ) (end : ℕ) (left : Left)
    → piece ≡ done ++ rest → IsFirstByte (is_byte 10) rest (Some end)
    → (let p = pieces ((bytes ++ done) ++ take end rest) in IsCutIn cut (whole s p.ended) p.last left)
    → (i : ℕ) × (i < length piece) × (get_or piece i 0 ≡ 10)
    × (let p = pieces (bytes ++ take i piece) in IsCutIn cut (whole s p.ended) p.last left)
cut_at cut s bytes piece done rest end left e first is =
    let i = length done + end in
    let inside : end < length rest = first.0.high in
    let taken : bytes ++ take i piece ≡ (bytes ++ done) ++ take end rest =
    ap (λ (t : List ℕ). bytes ++ take i t) e ∙ ap (λ t. bytes ++ t) (take-append-add done rest end)
    ∙ sym (append_assoc bytes done (take end rest)) in (
      i,
      omega (arith, ap length e, length-append done rest),
      ap (λ (t : List ℕ). get_or t i 0) e ∙ get_or-append-add done rest end 0 ∙ is_newline_at rest end first,
      subst (λ (xs : List ℕ). IsCutIn cut (whole s (pieces xs).ended) (pieces xs).last left) (sym taken) is,
    )

-- ---- no newline is left

-- feeding the rest of a piece without a newline adds it to the line in the buffer
pub Fed-last : (s : State) (bytes piece done rest : List ℕ) (line held : Option (List ℕ))
    (left : Left) (session : Session)
    → piece ≡ done ++ rest → HasNoNewline rest → held ≡ buffer_after line rest
    → Fed s (bytes ++ done) line left session → Fed s (bytes ++ piece) held left session
Fed-last s bytes piece done rest line held left session e none is fed =
    Fed-same s (bytes ++ piece) ((bytes ++ done) ++ rest) held left session
    (ap (λ t. bytes ++ t) e ∙ sym (append_assoc bytes done rest))
    (Fed-others s (bytes ++ done) rest line held left session none is fed)
