use Rattle.std.proofs.Common.{◌≡◌, ℕ, ◌+◌, ◌<◌, ◌≤◌, List, ◌++◌, take, drop, length, sym}
use Rattle.std.proofs.Common.{◌∙◌, ap, arith, length-append, length-take, length-drop, subst}
use Rattle.std.proofs.lemmas.List.{take_at, drop_at, length-take-le, same_lists, places}
use Rattle.std.proofs.lemmas.List.{get_or-take, get_or-drop, get_or_append_left}
use Rattle.nv_host.specs.Bytes.{bytes_at, with_bytes}

-- writing bytes within a memory keeps its length
pub length-with_bytes : (m : List ℕ) (a : ℕ) (d : List ℕ) → a + length d ≤ length m
    → length (with_bytes m a d) ≡ length m
unfolding with_bytes
length-with_bytes m a d h = simp (length-append, length-take, length-drop) (omega arith)

-- n bytes that lie within a memory are n bytes
pub length-bytes_at : (m : List ℕ) (a n : ℕ) → a + n ≤ length m → length (bytes_at m a n) ≡ n
unfolding bytes_at
length-bytes_at m a n h = simp (length-take, length-drop) (omega arith)

-- what was written is read back
pub bytes_at-with_same : (m : List ℕ) (a n : ℕ) (d : List ℕ) → a + length d ≤ length m → n
    ≡ length d → bytes_at (with_bytes m a d) a n ≡ d
unfolding bytes_at with_bytes
bytes_at-with_same m a n d h e =
    let front : length (take a m) ≡ a = length-take-le a m (omega arith) in
    ap (take n) (drop_at (take a m) (d ++ drop (a + length d) m) a front)
    ∙ take_at d (drop (a + length d) m) n (sym e)

-- bytes before the written ones don't change
pub bytes_at-with_before : (m : List ℕ) (a : ℕ) (d : List ℕ) (b n : ℕ) → b + n ≤ a → a + length d
    ≤ length m → bytes_at (with_bytes m a d) b n ≡ bytes_at m b n
unfolding bytes_at with_bytes
bytes_at-with_before m a d b n h i =
    same_lists _ _
    (simp (length-append, length-take, length-drop) (omega arith))
    (λ k x l. let s : k < n =
    omega (arith, length-take n (drop b (take a m ++ (d ++ drop (a + length d) m)))) in
    let lt : b + k < length (take a m) = omega (arith, length-take a m) in
    let f : b + k < a = omega arith in
    rw (get_or-take, get_or-take, get_or-drop, get_or-drop, get_or_append_left, get_or-take))

-- bytes after the written ones don't change
pub bytes_at-with_after : (m : List ℕ) (a : ℕ) (d : List ℕ) (b n : ℕ) → a + length d ≤ b → a
    + length d ≤ length m → bytes_at (with_bytes m a d) b n ≡ bytes_at m b n
unfolding bytes_at with_bytes
bytes_at-with_after m a d b n h i =
    ap (take n) (same_lists _ _
    (simp (length-append, length-take, length-drop) (omega arith))
    (λ k x l. grind (arith, places)))

-- k bytes from i on of a range of bytes are the k bytes of the memory at the same place
pub bytes_at-bytes_at : (m : List ℕ) (a n i k : ℕ) → i + k ≤ n → bytes_at (bytes_at m a n) i k
    ≡ bytes_at m (a + i) k
unfolding bytes_at
bytes_at-bytes_at m a n i k h =
    same_lists _ _
    (simp (length-take, length-drop) (omega arith))
    (λ j x l. grind (arith, places))

-- a page of which a part is written is written in that part alone
pub with_part : (m : List ℕ) (q p s k : ℕ) (page part : List ℕ) → q + p ≤ length m → s + k ≤ p → length part ≡ k
    → page ≡ bytes_at m q p
    → with_bytes m q (take s page ++ (part ++ drop k (drop s page))) ≡ with_bytes m (q + s) part
unfolding with_bytes bytes_at
with_part m q p s k page part inside within size is =
    subst (λ x. with_bytes m q (take s x ++ (part ++ drop k (drop s x))) ≡ with_bytes m (q + s) part) (sym is)
    (same_lists _ _
    (simp (length-append, length-take, length-drop) (omega arith))
    (λ j x l. grind (arith, places)))

-- writing bytes within a memory keeps its length, under a name that an attribute can use
pub length_with_bytes : (m : List ℕ) (a : ℕ) (d : List ℕ) → a + length d ≤ length m
    → length (with_bytes m a d) ≡ length m
length_with_bytes m a d h = length-with_bytes m a d h
