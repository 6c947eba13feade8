-- Bytes with zeros after them.
use Rattle.nv_driver.proofs.Words.{[], ℕ, ◌%◌, ◌*◌, ◌++◌, ◌+◌, ◌-◌, ◌/◌, ◌<◌, ◌∙◌, ◌≡◌, ◌≤◌, Bool, List, ToHost}
use Rattle.nv_driver.proofs.Words.{Transfer, ap, arith, buffer_place, buffer_places, bytes_at, bytes_to_host, cases_lt}
use Rattle.nv_driver.proofs.Words.{div-eq_of_lt, drop, false, get_or, get_or-bytes_at, get_or-drop, get_or-map}
use Rattle.nv_driver.proofs.Words.{get_or-table, get_or-take, get_or_past, if◌then◌else◌, inl, inr, length}
use Rattle.nv_driver.proofs.Words.{length-append, length-drop, length-read_at, length-replicate, length-table}
use Rattle.nv_driver.proofs.Words.{length-take, length_of, min, mod-eq_of_lt, padded, page_size_bounds, read_at}
use Rattle.nv_driver.proofs.Words.{received_from, refl, same_number_lists, sym, table, take, true}
use Rattle.std.proofs.Common.{replicate, slice_index}
use Rattle.nv_host.proofs.BytesLaws.{length-bytes_at}
use Rattle.nv_prp.proofs.CopyLaws.{read_part}
use Rattle.nv_layout.proofs.PartLaws.{get_or-past}
use Rattle.nv_driver.proofs.DataLaws.{data_part, few_data, nothing}

-- padded bytes are as many as were asked for
pub length-padded : (n : ℕ) (bytes : List ℕ) → length (padded n bytes) ≡ n
length-padded n bytes =
    let whole = length-append bytes (replicate n 0) in
    let zeros = length-replicate {A = ℕ} n 0 in
    let first = length-take n (bytes ++ replicate n 0) in omega (arith, whole, zeros, first)

-- a part of bytes with zeros after them: it begins at a byte or past the last one
pub padded_part : (n at first count m k len : ℕ) (bytes out : List ℕ) → first ≡ min at (length bytes)
    → count ≡ min len (length bytes - first) → m ≡ count → k ≡ len - count → at + len ≤ n
    → out ≡ take m (drop first bytes) ++ replicate k 0 → out ≡ take len (drop at (padded n bytes))
padded_part n at first count m k len bytes out begins few same rest inside is =
    let part = take m (drop first bytes) in
    let all = padded n bytes in
    let size : length part ≡ count = omega (arith, length-take m (drop first bytes), length-drop first bytes) in
    let whole = ap (λ (xs : List ℕ). length xs) is in
    let long : length out ≡ len =
    omega (arith, whole, size, length-append part (replicate k 0), length-replicate {A = ℕ} k 0) in
    let wanted : length (take len (drop at all)) ≡ len =
    omega (arith, length-take len (drop at all), length-drop at all, length-padded n bytes) in
    same_number_lists out (take len (drop at all)) (long ∙ sym wanted)
    (λ i below.
    let low : i < len = omega (arith, long, below) in
    let here = get_or-take len (drop at all) i 0 low ∙ get_or-drop at all i 0
    ∙ get_or-take n (bytes ++ replicate n 0) (at + i) 0 (omega arith) ∙ get_or-past bytes 0 n (at + i) in
    ap (λ xs. get_or xs i 0) is ∙ get_or-past part 0 k i
    ∙ elim (cases_lt i count) [
      | inl early ↦ get_or-take m (drop first bytes) i 0 (omega arith) ∙ get_or-drop first bytes i 0
          ∙ (λ j. let begin : first ≡ at = omega arith in get_or bytes (begin j + i) 0)
      | inr past ↦ get_or_past part i 0 (omega (arith, size)) ∙ sym (get_or_past bytes (at + i) 0 (omega arith))
    ]
    ∙ sym here)

pub ruleset parts_sent = (data_part, few_data, length-padded)

-- ---- reading from a buffer

-- byte i of the first k bytes that are read
read_first : (mem : List ℕ) (page_size : ℕ) (pages : List ℕ) (offset k i : ℕ) → i < k
    → get_or (read_at mem (buffer_places page_size pages offset k)) i 0
    ≡ get_or mem (buffer_place page_size pages offset i) 0
unfolding read_at buffer_places
read_first mem page_size pages offset k i low =
    let at = table k (buffer_place page_size pages offset) in
    let many = length-table k (buffer_place page_size pages offset) in
    get_or-map (λ p. get_or mem p 0) at i 0 0 (omega arith)
    ∙ ap (λ p. get_or mem p 0) (get_or-table k (buffer_place page_size pages offset) i 0 low)

-- as many bytes are read from a buffer as were asked for
length-read : (mem : List ℕ) (page_size : ℕ) (pages : List ℕ) (offset k : ℕ)
    → length (read_at mem (buffer_places page_size pages offset k)) ≡ k
unfolding buffer_places
length-read mem page_size pages offset k =
    length-read_at mem (buffer_places page_size pages offset k) ∙ length-table k (buffer_place page_size pages offset)

-- bytes of a buffer that lie in its first page
pub in_one_page : (mem : List ℕ) (page_size : ℕ) (pages : List ℕ) (offset len : ℕ) → offset + len ≤ page_size
    → slice_index pages 0 * page_size + page_size ≤ length mem
    → take len (drop offset (bytes_at mem (slice_index pages 0 * page_size) page_size))
    ≡ read_at mem (buffer_places page_size pages offset len)
unfolding buffer_place
in_one_page mem page_size pages offset len low inside =
    let first = slice_index pages 0 * page_size in
    read_part mem first page_size offset len low
    ∙ same_number_lists (bytes_at mem (first + offset) len) (read_at mem (buffer_places page_size pages offset len))
    (length-bytes_at mem (first + offset) len (omega (arith, low, inside))
    ∙ sym (length-read mem page_size pages offset len))
    (λ i below.
    let few : i < len = omega (arith, length-bytes_at mem (first + offset) len (omega (arith, low, inside)), below) in
    let here : offset + i < page_size = omega (arith, few, low) in
    let place : first + offset + i
    ≡ slice_index pages ((offset + i) / page_size) * page_size + (offset + i) % page_size =
    rw (div-eq_of_lt here, mod-eq_of_lt here) (omega arith) in
    get_or-bytes_at mem (first + offset) len i few ∙ ap (λ p. get_or mem p 0) place
    ∙ sym (read_first mem page_size pages offset len i few))

pub ruleset one_page = (in_one_page, page_size_bounds)

-- the first bytes were read into a slice, whose rest was zeroed
pub padded_read : (mem : List ℕ) (page_size : ℕ) (pages : List ℕ) (offset len count n k : ℕ) (out : List ℕ)
    → count ≤ len → count ≤ n → (count < n → len ≤ count) → k ≡ n - count
    → out ≡ read_at mem (buffer_places page_size pages offset count) ++ replicate k 0
    → out ≡ padded n (read_at mem (buffer_places page_size pages offset len))
padded_read mem page_size pages offset len count n k out few room all rest is =
    let part = read_at mem (buffer_places page_size pages offset count) in
    let whole = read_at mem (buffer_places page_size pages offset len) in
    let here = length-read mem page_size pages offset count in
    let size = ap (λ (xs : List ℕ). length xs) is in
    let long : length out ≡ n =
    omega (arith, size, length-append part (replicate k 0), length-replicate {A = ℕ} k 0, here, rest, room) in
    same_number_lists out (padded n whole) (long ∙ sym (length-padded n whole))
    (λ i inside.
    let below : i < n = omega (arith, long, inside) in
    ap (λ xs. get_or xs i 0) is ∙ get_or-past part 0 k i
    ∙ elim (cases_lt i count) [
      | inl low ↦ read_first mem page_size pages offset count i low
          ∙ sym (read_first mem page_size pages offset len i (omega arith))
      | inr past ↦ get_or_past part i 0 (omega (arith, here))
          ∙ sym (get_or_past whole i 0 (omega (arith, length-read mem page_size pages offset len, all (omega arith))))
    ]
    ∙ sym (get_or-take n (whole ++ replicate n 0) i 0 below ∙ get_or-past whole 0 n i))

-- how many bytes came by the status, and they are none if it refuses
pub came_as : (m : Transfer) (done : Bool) (mem : List ℕ) (page_size : ℕ) (pages : List ℕ) (offset : ℕ)
    → read_at mem (buffer_places page_size pages offset (if done then bytes_to_host m else 0))
    ≡ (if done then received_from m mem (buffer_places page_size pages offset (length_of m)) else [])
came_as m false mem page_size pages offset = nothing _ (length-read mem page_size pages offset 0)
came_as (ToHost n) true mem page_size pages offset = refl
came_as m true mem page_size pages offset = nothing _ (length-read mem page_size pages offset 0)
