-- Bytes that are compared part by part.
use Rattle.std.proofs.Common.{◌≡◌, ◌∙◌, ◌↔◌, ℕ, ◌+◌, ◌<◌, ◌≤◌, Bool, true, false, IsTrue, ap, append_assoc, arith}
use Rattle.std.proofs.Common.{drop, length}
use Rattle.std.proofs.Common.{refl, subst, sym, take, List, [], ◌++◌, get_or, length-drop}
use Rattle.std.proofs.Common.{if◌then◌else◌, Ok, Err}
use Rattle.std.proofs.Math.Seq.{take-add}
use Rattle.std.proofs.lemmas.List.{drop-drop, drop_at, length-take-le, take_at}
use Rattle.std.proofs.lemmas.Slice.Eq.{bytes_eq-Decides}
use Rattle.std.specs.Str.{bytes_eq}
use Rattle.nv_host.proofs.BytesLaws.{length-bytes_at}
use Rattle.nv_host.specs.Bytes.{bytes_at}
use Rattle.nv_prp.proofs.CopyLaws.{count_left, next_inside, none, read_left, read_part}
use Rattle.nv_prp.specs.Place.{LieIn, places, read_at}
use Rattle.nv_prp.specs.declared.spans.Span.{Span}
use Rattle.nv_blocks.specs.Blocks.{stored_in}
use Rattle.nv_blocks.specs.Effect.{acted, effect}
use Rattle.nv_blocks.specs.declared.command.Action.{Action}
use Rattle.nv_blocks.specs.declared.command.Action.TheVariants.{Compare}
use Rattle.nv_blocks.specs.declared.command.Extent.{Extent}
use Rattle.nv_blocks.specs.declared.refusal.Refusal.TheVariants.{CompareFailure}

-- k bytes from i on have k bytes
length-chunk : (xs : List ℕ) (i k : ℕ) → i + k ≤ length xs → length (take k (drop i xs)) ≡ k
length-chunk xs i k within = length-take-le k (drop i xs) (omega (arith, length-drop i xs))

-- ---- in one range

-- no bytes are no bytes
pub no_bytes : (m : List ℕ) (a : ℕ) → bytes_at m a 0 ≡ []
unfolding bytes_at
no_bytes m a = refl

-- if the first i bytes are those of the memory, and the k after them, the first i + k are
pub more_held : (m xs : List ℕ) (a i k n : ℕ) → i + k ≤ length xs → n ≡ k → bytes_at m a i ≡ take i xs
    → bytes_at m (a + i) (length (take n (drop i xs))) ≡ take n (drop i xs)
    → bytes_at m a (i + k) ≡ take (i + k) xs
unfolding bytes_at
more_held m xs a i k n within same before here =
    let chunk : length (take n (drop i xs)) ≡ k = ap (λ j. length (take j (drop i xs))) same
    ∙ length-chunk xs i k within in
    cc (take-add i k (drop a m), take-add i k xs, drop-drop i a m)

-- if all bytes are those of the memory, the n from i on are
pub chunk_held : (m xs : List ℕ) (a i n : ℕ) → i + n ≤ length xs → bytes_at m a (length xs) ≡ xs
    → bytes_at m (a + i) (length (take n (drop i xs))) ≡ take n (drop i xs)
chunk_held m xs a i n within all =
    ap (bytes_at m (a + i)) (length-chunk xs i n within)
    ∙ sym (read_part m a (length xs) i n within)
    ∙ ap (λ l. take n (drop i l)) all

-- ---- in spans

-- if all bytes are those of the spans, the bytes of each span are
pub span_held : (m xs : List ℕ) (spans : List Span) (i at n : ℕ) → LieIn (length m) spans → i < length spans
    → at + length (places (drop i spans)) ≡ length xs
    → take at xs ++ read_at m (places (drop i spans)) ≡ read_at m (places spans)
    → n ≡ (get_or spans i none).len
    → read_at m (places spans) ≡ xs
    → bytes_at m (get_or spans i none).address (length (take n (drop at xs))) ≡ take n (drop at xs)
span_held m xs spans i at n inside below left same len all =
    let s = get_or spans i none in
    let rest = read_at m (places (drop (i + 1) spans)) in
    let here = bytes_at m s.address s.len in
    let within : at + n ≤ length xs = omega (arith, count_left spans i below) in
    let size : length here ≡ n = length-bytes_at m s.address s.len (next_inside (length m) spans i inside below)
    ∙ sym len in
    let whole : take at xs ++ (here ++ rest) ≡ xs =
    ap (λ l. take at xs ++ l) (sym (read_left m spans i inside below)) ∙ same ∙ all in
    ap (bytes_at m s.address) (length-chunk xs at n within ∙ len)
    ∙ sym (ap (λ l. take n (drop at l)) (sym whole)
    ∙ ap (take n) (drop_at (take at xs) (here ++ rest) at (length-take-le at xs (omega arith)))
    ∙ take_at here rest n size)

-- if the bytes so far are those of the spans so far, and those of the next span, this holds with that span too
pub more_spans : (m xs : List ℕ) (spans : List Span) (i at n k : ℕ) → LieIn (length m) spans → i < length spans
    → at + length (places (drop i spans)) ≡ length xs
    → take at xs ++ read_at m (places (drop i spans)) ≡ read_at m (places spans)
    → n ≡ (get_or spans i none).len → k ≡ (get_or spans i none).len
    → bytes_at m (get_or spans i none).address (length (take n (drop at xs))) ≡ take n (drop at xs)
    → take (at + k) xs ++ read_at m (places (drop (i + 1) spans)) ≡ read_at m (places spans)
more_spans m xs spans i at n k inside below left same len step held =
    let s = get_or spans i none in
    let rest = read_at m (places (drop (i + 1) spans)) in
    let within : at + n ≤ length xs = omega (arith, count_left spans i below) in
    let here : take n (drop at xs) ≡ bytes_at m s.address s.len =
    sym held ∙ ap (bytes_at m s.address) (length-chunk xs at n within ∙ len) in
    ap (λ l. l ++ rest) (take-add at k xs)
    ∙ append_assoc (take at xs) (take k (drop at xs)) rest
    ∙ ap (λ l. take at xs ++ (l ++ rest)) (ap (λ j. take j (drop at xs)) (step ∙ sym len) ∙ here)
    ∙ ap (λ l. take at xs ++ l) (sym (read_left m spans i inside below))
    ∙ same

-- the same for the span at an index of equal spans
pub next_held : (m xs : List ℕ) (spans : List Span) (s : Span) (i at n : ℕ) → s ≡ get_or spans i none
    → LieIn (length m) spans → i < length spans
    → at + length (places (drop i spans)) ≡ length xs
    → take at xs ++ read_at m (places (drop i spans)) ≡ read_at m (places spans)
    → n ≡ s.len
    → read_at m (places spans) ≡ xs
    → bytes_at m s.address (length (take n (drop at xs))) ≡ take n (drop at xs)
next_held m xs spans s i at n is inside below left same len all =
    let P : Span → Type 0 = λ x. n ≡ x.len
    → bytes_at m x.address (length (take n (drop at xs))) ≡ take n (drop at xs) in
    subst P (sym is) (λ equal. span_held m xs spans i at n inside below left same equal all) len

-- what holds of the bytes and the spans so far also holds with the next span
pub next_spans : (m xs : List ℕ) (spans : List Span) (s : Span) (i at n : ℕ) → s ≡ get_or spans i none
    → LieIn (length m) spans → i < length spans
    → at + length (places (drop i spans)) ≡ length xs
    → take at xs ++ read_at m (places (drop i spans)) ≡ read_at m (places spans)
    → n ≡ s.len
    → bytes_at m s.address (length (take n (drop at xs))) ≡ take n (drop at xs)
    → (at + s.len + length (places (drop (i + 1) spans)) ≡ length xs)
    × (take (at + s.len) xs ++ read_at m (places (drop (i + 1) spans)) ≡ read_at m (places spans))
next_spans m xs spans s i at n is inside below left same len held =
    let P : Span → Type 0 = λ x. n ≡ x.len
    → bytes_at m x.address (length (take n (drop at xs))) ≡ take n (drop at xs)
    → (at + x.len + length (places (drop (i + 1) spans)) ≡ length xs)
    × (take (at + x.len) xs ++ read_at m (places (drop (i + 1) spans)) ≡ read_at m (places spans)) in
    subst P (sym is) (λ equal here. (
      omega (arith, count_left spans i below),
      more_spans m xs spans i at n (get_or spans i none).len inside below left same equal refl here,
    )) len held

-- ---- the test

-- a test of two lists of bytes is what it is if it holds exactly for equal ones
pub decided : (b : Bool) (xs ys : List ℕ) → IsTrue b ↔ (xs ≡ ys) → bytes_eq xs ys ≡ b
decided true xs ys tells = (bytes_eq-Decides xs ys).1 (tells.0 refl)
decided false xs ys tells = by_test (bytes_eq xs ys) refl
  where
    by_test : (t : Bool) → bytes_eq xs ys ≡ t → t ≡ false
    by_test true is = sym (tells.1 ((bytes_eq-Decides xs ys).0 is))
    by_test false is = refl

-- a comparison with equal bytes changes nothing
pub compared : (action : Action) (is_exhausted b : Bool) (extent : Extent) (at stored bytes blocks : List ℕ)
    → action ≡ Compare → blocks ≡ stored_in stored extent → IsTrue b ↔ (read_at bytes at ≡ blocks) → b ≡ true
    → acted action is_exhausted extent at stored bytes ≡ Ok (effect stored bytes)
compared action is_exhausted b extent at stored bytes blocks is whole tells holds =
    ap (λ (a : Action). acted a is_exhausted extent at stored bytes) is
    ∙ ap (λ t. if t then Ok (effect stored bytes) else Err CompareFailure)
    (ap (bytes_eq (read_at bytes at)) (sym whole) ∙ decided b (read_at bytes at) blocks tells ∙ holds)
