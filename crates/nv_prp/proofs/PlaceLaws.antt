-- Laws of tables, of places, and of the bytes that are written to them.
use Rattle.std.proofs.Common.{◌≡◌, ◌≢◌, ◌∙◌, ◌⊎◌, ℕ, zero, suc, ◌+◌, ◌-◌, ◌<◌, ◌≤◌, List, [], ◌∷◌, ◌++◌, append_assoc}
use Rattle.std.proofs.Common.{append-nil, ap, arith, drop, get_or, length, length-append, length-drop}
use Rattle.std.proofs.Common.{length-take, min, refl, set, subst, sym}
use Rattle.std.proofs.Math.ListN.{length-set}
use Rattle.std.proofs.lemmas.List.{get_or-drop, get_or-map, get_or-set_other, get_or-set_same}
use Rattle.std.proofs.lemmas.List.{get_or-take, length-map}
use Rattle.nv_host.specs.Bytes.{bytes_at}
use Rattle.nv_prp.specs.Place.{LieIn, places, read_at, span_places, written_at}
use Rattle.nv_prp.proofs.Words.{All, AreDistinct, common_steps, same_number_lists, Span, table}

-- ---- tables

-- a table of n elements has n elements
pub length-table : {X : Type 0} (n : ℕ) (f : ℕ → X) → length (table n f) ≡ n
length-table zero f = refl
length-table (suc n) f = length-append (table n f) (f n ∷ []) ∙ ap (λ k. k + 1) (length-table n f)
    ∙ omega arith

-- element k of a table is f k
pub get_or-table : {X : Type 0} (n : ℕ) (f : ℕ → X) (k : ℕ) (d : X) → k < n
    → get_or (table n f) k d ≡ f k
get_or-table zero f k d h = absurd (omega arith)
get_or-table (suc n) f k d h = grind (arith, common_steps, length-table n f, get_or-table n f k d)

-- a table with one more element is the table and that element
pub table-more : {X : Type 0} (n m : ℕ) (f : ℕ → X) → m ≡ n + 1 → table m f ≡ table n f ++ f n ∷ []
table-more n m f e = let is : m ≡ suc n = omega arith in ap (λ k. table k f) is

-- a table of n + m elements is a table of the first n and a table of the m after them
pub table-append : {X : Type 0} (n m : ℕ) (f : ℕ → X) → table (n + m) f ≡ table n f
    ++ table m (λ k. f (n + k))
table-append n zero f = let is : n + 0 ≡ n =
    omega arith in ap (λ k. table k f) is ∙ sym (append-nil (table n f))
table-append n (suc m) f =
    table-more (n + m) (n + suc m) f (omega arith)
    ∙ ap (λ l. l ++ f (n + m) ∷ []) (table-append n m f)
    ∙ append_assoc (table n f) (table m (λ k. f (n + k))) (f (n + m) ∷ [])

-- tables of two functions that agree below n are equal
pub table-same : {X : Type 0} (n : ℕ) (f g : ℕ → X) → ((k : ℕ) → k < n → f k ≡ g k) → table n f
    ≡ table n g
table-same zero f g same = refl
table-same (suc n) f g same = λ i. table-same n f g (λ k h. same k (omega arith)) i
    ++ same n (omega arith) i ∷ []

-- what holds for each value below n holds for each element of a table
pub All-table : {X : Type 0} (P : X → Type 0) (n : ℕ) (f : ℕ → X) → ((k : ℕ) → k < n → P (f k))
    → All P (table n f)
All-table P n f each k d below =
    let h : k < n = omega (arith, length-table n f) in
    subst P (sym (get_or-table n f k d h)) (each k h)

-- a table of a function whose values below n differ in pairs is distinct
pub table_distinct : (n : ℕ) (f : ℕ → ℕ) → ((i k : ℕ) → i < k → k < n → f i ≢ f k)
    → AreDistinct (table n f)
table_distinct n f apart i k d below inside e = grind (arith, common_steps, length-table, get_or-table)

-- ---- places of spans

-- a span has as many places as bytes
pub length-span_places : (s : Span) → length (span_places s) ≡ s.len
unfolding span_places
length-span_places s = length-table s.len (λ k. s.address + k)

-- the places of spans that lie in a memory are below its length
pub places_inside : (size : ℕ) (spans : List Span) → LieIn size spans → (k : ℕ) → k
    < length (places spans) → get_or (places spans) k 0 < size
unfolding places span_places LieIn
places_inside size [] inside k below = absurd (omega arith)
places_inside size (s ∷ spans) inside k below =
    let here : s.address + s.len ≤ size = inside 0 s (omega arith) in
    let len = length-span_places s in
    let others = places_inside size spans (λ i d h. inside (suc i) d (omega arith)) (k - s.len) in
    grind (arith, common_steps, get_or-table)

-- ---- bytes read from places and written to them

-- as many bytes are read as there are places
pub length-read_at : (bytes ps : List ℕ) → length (read_at bytes ps) ≡ length ps
unfolding read_at
length-read_at bytes ps = length-map ps (λ p. get_or bytes p 0)

-- writing to places keeps the length of the memory
pub length-written_at : (bytes ps xs : List ℕ) → length (written_at bytes ps xs) ≡ length bytes
unfolding written_at
length-written_at bytes [] xs = refl
length-written_at bytes (p ∷ ps) [] = refl
length-written_at bytes (p ∷ ps) (x ∷ xs) =
    length-written_at (set bytes p x) ps xs ∙ length-set bytes p x

-- a byte at none of the places that are written doesn't change
pub others_stay : (bytes at written : List ℕ) (other : ℕ) → ((k : ℕ) → k < length at
    → get_or at k 0 ≢ other)
    → get_or (written_at bytes at written) other 0 ≡ get_or bytes other 0
unfolding written_at
others_stay bytes [] written other apart = refl
others_stay bytes (p ∷ at) [] other apart = refl
others_stay bytes (p ∷ at) (b ∷ written) other apart =
    let first : p ≢ other = apart 0 (omega arith) in
    others_stay (set bytes p b) at written other (λ k below. let next : get_or at k 0 ≢ other =
    apart (suc k) (omega arith) in next)
    ∙ get_or-set_other bytes p other b 0 (λ e. first (sym e))

-- a place holds what was written to it last
pub later_stays : (bytes at written : List ℕ) (i : ℕ) → length at ≡ length written → i < length at
    → get_or at i 0 < length bytes
    → ((k : ℕ) → i < k → k < length at → get_or at k 0 ≢ get_or at i 0)
    → get_or (written_at bytes at written) (get_or at i 0) 0 ≡ get_or written i 0
unfolding written_at
later_stays bytes [] written i same below inside last = absurd (omega arith)
later_stays bytes (p ∷ at) [] i same below inside last = absurd (omega arith)
later_stays bytes (p ∷ at) (b ∷ written) zero same below inside last =
    others_stay (set bytes p b) at written p
    (λ k h. let next : get_or at k 0 ≢ p = last (suc k) (omega arith) (omega arith) in next)
    ∙ get_or-set_same bytes p b 0 inside
later_stays bytes (p ∷ at) (b ∷ written) (suc i) same below inside last =
    later_stays (set bytes p b) at written i (omega arith) (omega arith)
    (let size = length-set bytes p b in omega arith)
    (λ k h j. let next : get_or at k 0 ≢ get_or at i 0 = last (suc k) (omega arith) (omega arith) in
    next)

-- what is written to distinct places of a memory is read back from them
pub read_written : (bytes at written : List ℕ) → length at ≡ length written
    → ((k : ℕ) → k < length at → get_or at k 0 < length bytes) → AreDistinct at
    → read_at (written_at bytes at written) at ≡ written
unfolding read_at
read_written bytes at written same inside distinct =
    let size = length-read_at (written_at bytes at written) at in
    same_number_lists _ _ (size ∙ same)
    (λ k h. let below : k < length at = omega (arith, size) in
    get_or-map (λ p. get_or (written_at bytes at written) p 0) at k 0 0 below
    ∙ later_stays bytes at written k same below (inside k below) (λ j later more e.
    distinct k j 0 later more (sym e)))

-- what is written to distinct places of spans in the memory is read back from them
pub written_is_read : (bytes : List ℕ) (spans : List Span) (written : List ℕ)
    → LieIn (length bytes) spans
    → length (places spans) ≡ length written → AreDistinct (places spans)
    → read_at (written_at bytes (places spans) written) (places spans) ≡ written
written_is_read bytes spans written inside same distinct =
    read_written bytes (places spans) written same (places_inside _ spans inside) distinct

-- byte k of the n bytes from `from` on is byte from + k of the memory
pub get_or-bytes_at : (bytes : List ℕ) (from n k : ℕ) → k < n → get_or (bytes_at bytes from n) k 0
    ≡ get_or bytes (from + k) 0
unfolding bytes_at
get_or-bytes_at bytes from n k below =
    get_or-take n (drop from bytes) k 0 below ∙ get_or-drop from bytes k 0

-- a part of n bytes has n bytes, or as many as there are
length-part : (bytes : List ℕ) (from n : ℕ) → length (bytes_at bytes from n)
    ≡ min n (length bytes - from)
unfolding bytes_at
length-part bytes from n = simp (length-take, length-drop) (omega arith)

-- a part without a place that was written doesn't change
pub part_stays : (bytes at written : List ℕ) (from n : ℕ)
    → ((k : ℕ) → k < length at → (get_or at k 0 < from) ⊎ (from + n ≤ get_or at k 0))
    → bytes_at (written_at bytes at written) from n ≡ bytes_at bytes from n
part_stays bytes at written from n apart =
    grind (arith, common_steps, length-written_at, same_number_lists, length-part, get_or-bytes_at, others_stay)
