-- Copies part by part, and span by span, are copies byte by byte.
use Rattle.std.proofs.Common.{append-nil, append_assoc, ◌≡◌, ◌∙◌, ℕ, ◌+◌, ◌≤◌, List, [], ◌++◌, ap, arith, drop, length}
use Rattle.std.proofs.Common.{length-append, length-drop, length-take, sym, take, add-one, zero, suc, ◌<◌, ◌∷◌, get_or}
use Rattle.std.proofs.Common.{refl, set}
use Rattle.std.proofs.Math.Seq.{take-add, take-suc}
use Rattle.std.proofs.lemmas.List.{drop-drop, places as item_places, same_lists, take-append-drop, drop_all, drop_more}
use Rattle.std.proofs.lemmas.List.{take_all, get_or-map, length-take-le, map-append, set_split}
use Rattle.std.proofs.lemmas.Slice.{take-put_mid}
use Rattle.nv_host.specs.Bytes.{bytes_at, with_bytes}
use Rattle.nv_host.proofs.BytesLaws.{bytes_at-bytes_at, length-bytes_at, length-with_bytes}
use borrow.Rule.Slice.PartMut.{put_mid}
use Rattle.nv_prp.specs.Place.{LieIn, places, read_at, span_places, written_at}
use Rattle.nv_prp.proofs.Words.{common_steps, flat_map, same_number_lists, Span, table}
use Rattle.nv_prp.proofs.PlaceLaws.{get_or-table, length-read_at, length-span_places, length-table}

-- writing no bytes changes nothing
pub none_written : (m : List ℕ) (a : ℕ) → with_bytes m a [] ≡ m
unfolding with_bytes
none_written m a = let same : a + 0 ≡ a = omega arith in ap (λ n. take a m ++ drop n m) same ∙ take-append-drop a m

-- writing ys directly after xs writes xs ++ ys
pub with_more : (m : List ℕ) (a : ℕ) (xs ys : List ℕ) → a + length xs + length ys ≤ length m
    → with_bytes (with_bytes m a xs) (a + length xs) ys ≡ with_bytes m a (xs ++ ys)
unfolding with_bytes
with_more m a xs ys inside =
    same_lists _ _ (simp (length-append, length-take, length-drop) (omega arith)) (λ k d h. grind (arith, item_places))

-- ---- a part of a range

-- k bytes from s on of a range of bytes are the k bytes of the memory at the same place
pub read_part : (m : List ℕ) (q p s k : ℕ) → s + k ≤ p → take k (drop s (bytes_at m q p)) ≡ bytes_at m (q + s) k
unfolding bytes_at
read_part m q p s k within = bytes_at-bytes_at m q p s k within

-- ---- the next part of a range

-- if the first i bytes of a range were read, reading the next k makes them the first i + k
pub read_step : (bytes out part : List ℕ) (addr i k n : ℕ) → take i out ≡ bytes_at bytes addr i → i + k ≤ length out
    → part ≡ bytes_at bytes (addr + i) k → addr + (i + k) ≤ length bytes → n ≡ k
    → take (i + k) (put_mid i n out part) ≡ bytes_at bytes addr (i + k)
unfolding bytes_at
read_step bytes out part addr i k n before within is inside same =
    grind (arith, common_steps, length-bytes_at, take-put_mid, drop-drop, take-add)

-- if the first i bytes of a range were written, writing the next k makes them the first i + k
pub write_step : (first now source : List ℕ) (addr i k : ℕ) → now ≡ with_bytes first addr (take i source)
    → i + k ≤ length source → addr + (i + k) ≤ length first
    → with_bytes now (addr + i) (take k (drop i source)) ≡ with_bytes first addr (take (i + k) source)
write_step first now source addr i k before within inside =
    let xs = take i source in
    let front : length xs ≡ i = length-take-le i source (omega arith) in
    (λ j. with_bytes (before j) (addr + sym front j) (take k (drop i source)))
    ∙ with_more first addr xs (take k (drop i source)) (simp (length-take, length-drop) (omega arith))
    ∙ ap (with_bytes first addr) (sym (take-add i k source))

-- ---- the next span, and those after it

-- a span of no bytes
abbrev pub none : Span
none = record { address = 0; len = 0 }

-- the places of the spans from index i on are the places of span i and then of the later spans
places_left : (spans : List Span) (i : ℕ) → i < length spans
    → places (drop i spans) ≡ span_places (get_or spans i none) ++ places (drop (i + 1) spans)
unfolding places
places_left spans i below = ap (λ l. flat_map span_places l) (drop_more spans i none below)

-- the spans from index i on have as many bytes as span i and the later spans together
pub count_left : (spans : List Span) (i : ℕ) → i < length spans
    → length (places (drop i spans)) ≡ (get_or spans i none).len + length (places (drop (i + 1) spans))
count_left spans i below = grind (arith, common_steps, places_left, length-append, length-span_places)

-- past the last span, there are no places
pub none_left : (spans : List Span) (i : ℕ) → length spans ≤ i → places (drop i spans) ≡ []
unfolding places
none_left spans i past = ap (λ l. flat_map span_places l) (drop_all i spans past)

-- if spans lie in a memory, each of them does
pub next_inside : (size : ℕ) (spans : List Span) (i : ℕ) → LieIn size spans → i < length spans
    → (get_or spans i none).address + (get_or spans i none).len ≤ size
unfolding LieIn
next_inside size spans i inside below = inside i none below

-- ---- reading

-- reading at the places of a span reads the bytes of its range
read_span : (bytes : List ℕ) (s : Span) → s.address + s.len ≤ length bytes
    → read_at bytes (span_places s) ≡ bytes_at bytes s.address s.len
unfolding read_at span_places bytes_at
read_span bytes s inside =
    let size = length-read_at bytes (span_places s) ∙ length-span_places s in
    same_number_lists _ _ (size ∙ sym (length-bytes_at bytes s.address s.len inside))
    (λ k h. grind
    (arith, item_places, size, length-span_places s, get_or-map, get_or-table s.len (λ j. s.address + j) k 0))

-- reading at the spans from index i on reads the range of span i and then at the later spans
pub read_left : (bytes : List ℕ) (spans : List Span) (i : ℕ) → LieIn (length bytes) spans → i < length spans
    → read_at bytes (places (drop i spans))
    ≡ bytes_at bytes (get_or spans i none).address (get_or spans i none).len
    ++ read_at bytes (places (drop (i + 1) spans))
unfolding read_at
read_left bytes spans i inside below = grind (arith, common_steps, places_left, map-append, read_span, next_inside)

-- reading at the places of a single span reads its range
pub one_span : (bytes : List ℕ) (spans : List Span) → LieIn (length bytes) spans → length spans ≡ 1
    → read_at bytes (places spans) ≡ bytes_at bytes (get_or spans 0 none).address (get_or spans 0 none).len
unfolding read_at places
one_span bytes spans inside one =
    let h : 0 < length spans = omega arith in
    read_left bytes spans 0 inside h
    ∙ ap (λ l. bytes_at bytes (get_or spans 0 none).address (get_or spans 0 none).len ++ read_at bytes l)
    (none_left spans 1 (omega arith))
    ∙ append-nil _

-- reading at no places reads nothing
pub read_none : (bytes : List ℕ) → read_at bytes [] ≡ []
unfolding read_at
read_none bytes = refl

-- ---- writing

-- writing to places in two parts writes the first part and then the second one
written_at-append : (bytes ps qs xs ys : List ℕ) → length ps ≡ length xs
    → written_at bytes (ps ++ qs) (xs ++ ys) ≡ written_at (written_at bytes ps xs) qs ys
unfolding written_at
written_at-append bytes [] qs [] ys e = refl
written_at-append bytes [] qs (x ∷ xs) ys e = absurd (omega arith)
written_at-append bytes (p ∷ ps) qs [] ys e = absurd (omega arith)
written_at-append bytes (p ∷ ps) qs (x ∷ xs) ys e = written_at-append (set bytes p x) ps qs xs ys (omega arith)

-- setting one byte writes a range of one byte
one_written : (bytes : List ℕ) (a b : ℕ) → a < length bytes → set bytes a b ≡ with_bytes bytes a (b ∷ [])
unfolding with_bytes
one_written bytes a b inside = set_split bytes a b inside ∙ ap (λ n. take a bytes ++ b ∷ drop n bytes) (sym (add-one a))

-- writing bytes to consecutive places writes them to the range
written_range : (bytes : List ℕ) (a n : ℕ) (xs : List ℕ) → n ≤ length xs → a + n ≤ length bytes
    → written_at bytes (table n (λ k. a + k)) (take n xs) ≡ with_bytes bytes a (take n xs)
unfolding written_at
written_range bytes a zero xs few inside = sym (none_written bytes a)
written_range bytes a (suc n) xs few inside =
    let ys = take n xs in
    let b = get_or xs n 0 in
    let size : length ys ≡ n = length-take-le n xs (omega arith) in
    let more : take (suc n) xs ≡ ys ++ b ∷ [] = take-suc xs n 0 (omega arith) in
    cc (
      written_at-append bytes (table n (λ k. a + k)) ((a + n) ∷ []) ys (b ∷ [])
          (length-table n (λ k. a + k) ∙ sym size),
      written_range bytes a n xs (omega arith) (omega arith),
      one_written (with_bytes bytes a ys) (a + n) b (omega (arith, length-with_bytes bytes a ys (omega arith))),
      with_more bytes a ys (b ∷ []) (omega arith),
    )

-- writing to the spans from index i on writes to the range of span i and then to the later spans
pub write_left : (bytes : List ℕ) (spans : List Span) (i at : ℕ) (source : List ℕ) → LieIn (length bytes) spans
    → i < length spans
    → at + length (places (drop i spans)) ≡ length source
    → written_at bytes (places (drop i spans)) (drop at source)
    ≡ written_at (with_bytes bytes (get_or spans i none).address (take (get_or spans i none).len (drop at source)))
    (places (drop (i + 1) spans)) (drop (at + (get_or spans i none).len) source)
unfolding span_places
write_left bytes spans i at source inside below all =
    let s = get_or spans i none in
    let xs = drop at source in
    let few : s.len ≤ length xs = omega (arith, length-drop at source, count_left spans i below) in
    let same = length-span_places s ∙ sym (length-take-le s.len xs few) in
    let range = written_range bytes s.address s.len xs few (next_inside _ spans i inside below) in
    let behind =
    written_at-append bytes (span_places s) (places (drop (i + 1) spans)) (take s.len xs) (drop s.len xs) same in
    cc (places_left spans i below, take-append-drop s.len xs, drop-drop s.len at source)

-- writing to no places changes nothing
pub written_none : (bytes source : List ℕ) → written_at bytes [] source ≡ bytes
unfolding written_at
written_none bytes source = refl

pub ruleset lefts = (
  count_left,
  none_left,
  next_inside,
  read_left,
  read_none,
  write_left,
  written_none,
  length-bytes_at,
  length-with_bytes,
  length-take,
  length-drop,
  take_all,
  take-put_mid,
  append-nil,
  append_assoc,
)

pub ruleset viewed = (one_span, next_inside, read_part, length-take, length-drop, length-bytes_at)
