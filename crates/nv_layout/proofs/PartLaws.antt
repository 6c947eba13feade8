-- One field that is written over some bytes, and reading numbers.
use Rattle.std.proofs.lemmas.Bool.Decides.{nat_tests}
use Rattle.std.proofs.Common.{◌≡◌, ◌∙◌, ℕ, zero, suc, ◌+◌, ◌-◌, ◌*◌, ◌/◌, ◌%◌, ◌^◌, ◌<◌, ◌≤◌, ap, rules}
use Rattle.std.proofs.Common.{refl, sym, arith, mul-zero, List, [], ◌∷◌, ◌++◌, take, drop, set}
use Rattle.std.proofs.Common.{length, get_or, map, min, replicate}
use Rattle.std.specs.List.{AllByRecursion, flat_map}
use Rattle.std.proofs.lemmas.Grind.{common_steps, same_number_lists}
use Rattle.std.proofs.lemmas.List.{drop-append-le, drop-drop, drop-take, drop_min}
use Rattle.std.proofs.lemmas.List.{get_or-drop, get_or-take}
use Rattle.std.proofs.lemmas.List.{length-append, length-drop, length-replicate}
use Rattle.std.proofs.lemmas.List.{length-take-le, set_split, take-append-le, take-replicate, take_all}
use Rattle.std.proofs.lemmas.Nat.{mod_below, one_shl, pow_pos, shl_whole}
use Rattle.std.proofs.Math.Seq.{take-append-add}
use Rattle.byteorder.specs.Endian.{little_bytes, little_from, little_number}
use Rattle.byteorder.specs.Numbers.{length-bytes_low_first, little_from-take}
use Rattle.nv_layout.specs.Parts.{Part, bytes_of, number, number_at, numbers, numbers_at, part}
use Rattle.nv_layout.specs.Parts.{start_of, placed, text, text_at, width_of, zeros}
use Rattle.nv_layout.specs.Bits.{at_bits}

-- zeros n has n elements
pub length_zeros : (n : ℕ) → length (zeros n) ≡ n
unfolding zeros
length_zeros n = length-replicate n 0

-- ---- a field is as long as its width

-- the condition on an array and a text; a number always meets it
abbrev pub IsSized : Part → Type 0
IsSized (number at width x) = Unit {0}
IsSized (numbers at width count xs) = length xs ≡ count
IsSized (text at width bytes) = length bytes ≡ width

-- w times the successor of n is w + w * n
pub times_suc : (w n : ℕ) → w * suc n ≡ w + w * n
times_suc w n = omega arith

-- the bytes of the numbers of a list are `width` for each number
pub length_each : (width : ℕ) (xs : List ℕ) → length (flat_map (little_bytes width) xs)
    ≡ width * length xs
length_each width [] = sym (mul-zero width)
length_each width (x ∷ xs) =
    length-append (little_bytes width x) (flat_map (little_bytes width) xs)
    ∙ ap (λ n. n + length (flat_map (little_bytes width) xs)) (length-bytes_low_first 0 width x)
    ∙ ap (λ n. width + n) (length_each width xs)
    ∙ sym (times_suc width (length xs))

-- the bytes of a field whose array or text has the right length are as many as its width
pub length-bytes_of : (p : Part) → IsSized p → length (bytes_of p) ≡ width_of p
length-bytes_of (number at width x) s = length-bytes_low_first 0 width x
length-bytes_of (numbers at width count xs) s = length_each width xs ∙ ap (λ n. width * n) s
length-bytes_of (text at width bytes) s = s

-- ---- a field over some bytes

-- bytes with `width` of them replaced from `at` on have as many bytes as before
length_over : (b c : List ℕ) (at width : ℕ) → length c ≡ width → at + width ≤ length b
    → length (take at b ++ (c ++ drop width (drop at b))) ≡ length b
length_over b c at width e h = grind (arith, common_steps)

-- bytes with a field written within them have as many bytes as before
pub length-placed : (b : List ℕ) (p : Part) → IsSized p → start_of p + width_of p ≤ length b
    → length (placed b p) ≡ length b
unfolding placed
length-placed b p s h = length_over b (bytes_of p) (start_of p) (width_of p) (length-bytes_of p s) h

-- the `width` bytes at `at` are the bytes that were put there
read_over : (b c d : List ℕ) (at width : ℕ) → length c ≡ width → at ≤ length b
    → take width (drop at (take at b ++ (c ++ d))) ≡ c
read_over b c d at width e h = grind (arith, common_steps)

-- a field that was written has its bytes at its place
pub text_at-placed : (b : List ℕ) (p : Part) → IsSized p → start_of p ≤ length b
    → text_at (start_of p) (width_of p) (placed b p) ≡ bytes_of p
unfolding placed text_at
text_at-placed b p s h =
    read_over b (bytes_of p) (drop (width_of p) (drop (start_of p) b)) (start_of p) (width_of p)
    (length-bytes_of p s) h

-- the first n of the first k elements are the first n elements, if n is at most k
take_fewer : (k n : ℕ) (xs : List ℕ) → n ≤ k → take n (take k xs) ≡ take n xs
take_fewer k n xs h = grind (arith, common_steps)

-- bytes that end before `end` are the same if everything from `end` on is replaced
read_before : (b rest : List ℕ) (end at n : ℕ) → at + n ≤ end → end ≤ length b
    → take n (drop at (take end b ++ rest)) ≡ take n (drop at b)
read_before b rest end at n h k =
    let front : length (take end b) ≡ end = length-take-le end b k in
    let cut : drop at (take end b ++ rest) ≡ drop at (take end b) ++ rest =
    drop-append-le at (take end b) rest (omega arith) in
    let room : n ≤ length (drop at (take end b)) = simp length-drop (omega arith) in
    let both : end ≡ at + (end - at) = omega arith in
    let part : drop at (take end b) ≡ take (end - at) (drop at b) =
    ap (λ m. drop at (take m b)) both ∙ drop-take at (end - at) b in
    ap (take n) cut
    ∙ take-append-le n (drop at (take end b)) rest room
    ∙ ap (take n) part
    ∙ take_fewer (end - at) n (drop at b) (omega arith)

-- writing a field doesn't change the bytes before it
pub text_at-placed_before : (b : List ℕ) (p : Part) (at n : ℕ) → at + n ≤ start_of p
    → start_of p ≤ length b → text_at at n (placed b p) ≡ text_at at n b
unfolding placed text_at
text_at-placed_before b p at n h k =
    read_before b (bytes_of p ++ drop (width_of p) (drop (start_of p) b)) (start_of p) at n h k

-- setting one byte writes a field of one byte
pub byte_placed : (b : List ℕ) (at x : ℕ) → at < length b → x < 256 → set b at x
    ≡ placed b (number at 1 x)
unfolding placed
byte_placed b at x h small = grind (arith, common_steps, set_split, drop-drop 1 at b)

-- the bytes of a number's lower half, and then those of its upper half, are its bytes
pub halves : (v : ℕ) → little_bytes 8 (v % 2 ^ 64) ++ little_bytes 8 (v / 2 ^ 64) ≡ little_bytes 16 v
halves v = grind arith

-- ---- numbers in a row

-- numbers_at reads as many numbers as were asked for
pub length-numbers_at : (at width n : ℕ) (bytes : List ℕ) → length (numbers_at at width n bytes) ≡ n
unfolding numbers_at
length-numbers_at at width zero bytes = refl
length-numbers_at at width (suc n) bytes = ap suc (length-numbers_at (at + width) width n bytes)

-- number k that numbers_at reads is the number `width` * k bytes after the first
pub get_or-numbers_at : (at width n : ℕ) (bytes : List ℕ) (k : ℕ) → k < n
    → get_or (numbers_at at width n bytes) k 0 ≡ number_at (at + width * k) width bytes
unfolding numbers_at
get_or-numbers_at at width zero bytes k h = absurd (omega arith)
get_or-numbers_at at width (suc n) bytes zero h = ap (λ m. number_at m width bytes) (omega arith)
get_or-numbers_at at width (suc n) bytes (suc k) h =
    grind (arith, nat_tests, get_or-numbers_at (at + width) width n bytes k (omega arith))

-- values that were read one by one are the numbers that numbers_at reads
pub numbers_read : (at width n : ℕ) (bytes xs : List ℕ) → length xs ≡ n
    → ((k : ℕ) → k < n → get_or xs k 0 ≡ number_at (at + width * k) width bytes)
    → xs ≡ numbers_at at width n bytes
numbers_read at width n bytes xs e h = search (rules, length-numbers_at, same_number_lists, get_or-numbers_at)

-- numbers that are below a limit by their indices are all below it
pub all_below : (limit : ℕ) (xs : List ℕ) → ((k : ℕ) → k < length xs → get_or xs k 0 < limit)
    → AllByRecursion (λ x. x < limit) xs
all_below limit [] h = tt
all_below limit (x ∷ xs) h = (
  h 0 (omega arith),
  all_below limit xs (λ k below. let at : get_or xs k 0 < limit =
      h (suc k) (omega arith) in at),
)

-- a number in a part of the bytes is the number at the same place in all bytes
pub number_at-part : (at width size skip : ℕ) (bytes : List ℕ) → skip + width ≤ size
    → little_number width (drop skip (take size (drop at bytes)))
    ≡ number_at (at + skip) width bytes
unfolding number_at
number_at-part at width size skip bytes h =
    let more : size ≡ skip + (size - skip) = omega arith in
    ap (λ (m : ℕ). little_from 0 width (drop skip (take m (drop at bytes)))) more
    ∙ ap (little_from 0 width) (drop-take skip (size - skip) (drop at bytes))
    ∙ little_from-take 0 width (size - skip) (drop skip (drop at bytes)) (omega arith)
    ∙ ap (little_from 0 width) (drop-drop skip at bytes)

-- ---- bits of 32

-- a value shifted to bit `low` with its lowest `count` bits, in 32 bits, is the value at those bits
pub to_bits_value : (value low count : ℕ) → low < 32 → count < 32 → low + count ≤ 32
    → value % (1 * 2 ^ count % 2 ^ 32) * 2 ^ low % 2 ^ 32 ≡ at_bits low count value
to_bits_value value low count l c h =
    let size : 1 * 2 ^ count % 2 ^ 32 ≡ 2 ^ count = one_shl count 32 c in
    let below : value % 2 ^ count < 2 ^ count = mod_below value (2 ^ count) (pow_pos count) in
    ap (λ m. value % m * 2 ^ low % 2 ^ 32) size ∙ shl_whole (value % 2 ^ count) count low 32 below
    (omega arith)

-- ---- arrays

-- if each element of ys is f of the element of xs, ys is the mapped list
pub map_read : {X Y : Type 0} (f : X → Y) (xs : List X) (ys : List Y) (d : X) (e : Y)
    → length ys ≡ length xs → ((k : ℕ) → k < length xs → get_or ys k e ≡ f (get_or xs k d))
    → ys ≡ map f xs
map_read f [] [] d e l h = refl
map_read f [] (y ∷ ys) d e l h = absurd (omega arith)
map_read f (x ∷ xs) [] d e l h = absurd (omega arith)
map_read f (x ∷ xs) (y ∷ ys) d e l h =
    let first : y ≡ f x = h 0 (omega arith) in
    let rest = map_read f xs ys d e (omega arith)
    (λ k below. let here : get_or ys k e ≡ f (get_or xs k d) = h (suc k) (omega arith) in here) in
    (λ i. first i ∷ rest i)

-- ---- a part of the bytes, with zeros past their end

-- a part of n bytes has n bytes
pub length-part : (bytes : List ℕ) (from n : ℕ) → length (part bytes from n) ≡ n
unfolding part
length-part bytes from n = grind (arith, common_steps)

-- reading past the end of a list gives the default, whether or not copies of it are there
pub get_or-past : {X : Type 0} (xs : List X) (d : X) (n k : ℕ) → get_or (xs ++ replicate n d) k d
    ≡ get_or xs k d
get_or-past xs d n k = grind (arith, common_steps)

-- byte k of a part from `from` on is byte from + k of the bytes, and 0 past their end
pub get_or-part : (bytes : List ℕ) (from n k : ℕ) → k < n → get_or (part bytes from n) k 0
    ≡ get_or bytes (from + k) 0
unfolding part
get_or-part bytes from n k h =
    get_or-take n (drop from bytes ++ replicate n 0) k 0 h
    ∙ get_or-past (drop from bytes) 0 n k
    ∙ get_or-drop from bytes k 0

-- a list that agrees with the bytes at each index is a part of them
pub is_part : (bytes : List ℕ) (from : ℕ) (xs : List ℕ)
    → ((k : ℕ) → k < length xs → get_or xs k 0 ≡ get_or bytes (from + k) 0) → xs
    ≡ part bytes from (length xs)
is_part bytes from xs h = search (rules, same_number_lists, length-part, get_or-part)

-- byte k of two parts, one directly after the other, is byte from + k of the bytes
byte_of_parts : (bytes : List ℕ) (from m n k : ℕ) → k < m + n
    → get_or (part bytes from m ++ part bytes (from + m) n) k 0 ≡ get_or bytes (from + k) 0
byte_of_parts bytes from m n k h = grind (arith, common_steps, length-part, get_or-part)

-- parts whose bytes agree are equal
pub same_parts : (xs ys : List ℕ) (i j n : ℕ)
    → ((k : ℕ) → k < n → get_or xs (i + k) 0 ≡ get_or ys (j + k) 0) → part xs i n ≡ part ys j n
same_parts xs ys i j n h = search (rules, length-part, same_number_lists, get_or-part)

-- a part and the part directly after it are one longer part
pub part-append : (bytes : List ℕ) (from m n : ℕ)
    → part bytes from m ++ part bytes (from + m) n ≡ part bytes from (m + n)
part-append bytes from m n =
    let size : length (part bytes from m ++ part bytes (from + m) n) ≡ m + n =
    length-append (part bytes from m) (part bytes (from + m) n)
    ∙ (λ i. length-part bytes from m i + length-part bytes (from + m) n i) in
    is_part bytes from (part bytes from m ++ part bytes (from + m) n)
    (λ k below. byte_of_parts bytes from m n k (omega (arith, size, below)))
    ∙ ap (part bytes from) size

-- a part that begins past the end is all zeros, as if it began at the end
pub part_past : (bytes : List ℕ) (from n : ℕ) → part bytes (min from (length bytes)) n
    ≡ part bytes from n
unfolding part
part_past bytes from n = ap (λ rest. take n (rest ++ replicate n 0)) (drop_min from bytes)

-- m bytes from i on of a part are the part of m bytes that begins i bytes later
pub part-part : (bytes : List ℕ) (from n i m : ℕ) → i + m ≤ n
    → take m (drop i (part bytes from n)) ≡ part bytes (from + i) m
part-part bytes from n i m h =
    let whole = length-part bytes from n in
    let size : length (take m (drop i (part bytes from n))) ≡ m =
    length-take-le m (drop i (part bytes from n)) (simp length-drop (omega (arith, whole))) in
    is_part bytes (from + i) (take m (drop i (part bytes from n)))
    (λ k below. let small : k < m = omega (arith, size) in
    get_or-take m (drop i (part bytes from n)) k 0 small
    ∙ get_or-drop i (part bytes from n) k 0
    ∙ get_or-part bytes from n (i + k) (omega arith)
    ∙ ap (λ j. get_or bytes j 0) (omega arith))
    ∙ ap (part bytes (from + i)) size

-- a part within the bytes has no zeros of its own
pub part_within : (bytes : List ℕ) (from n : ℕ) → from + n ≤ length bytes → part bytes from n
    ≡ take n (drop from bytes)
unfolding part
part_within bytes from n h = grind (arith, common_steps)

-- the part from 0 on that is as long as the bytes is all of them
pub part_whole : (bytes : List ℕ) (n : ℕ) → length bytes ≡ n → part bytes 0 n ≡ bytes
part_whole bytes n e = search (rules, part_within, take_all)

-- ---- a part as what the bytes have of it and the zeros after that

-- a list and `rest` zeros after it are the first n elements of the list and n zeros
past_end : (xs : List ℕ) (rest n : ℕ) → n ≡ length xs + rest → xs ++ replicate rest 0 ≡ take n (xs ++ replicate n 0)
past_end xs rest n e = search (rules, take-replicate, take-append-add)

-- as many elements as a list has, up to n, with zeros up to n, are the first n of the list and n zeros
take_over : (xs : List ℕ) (n count : ℕ) → count ≡ min n (length xs)
    → take count xs ++ replicate (n - count) 0 ≡ take n (xs ++ replicate n 0)
take_over xs n count e = search (rules, take-append-le, take_all, past_end)

-- what the bytes have from `from` on, up to n, with zeros up to n, is the part of n bytes from `from` on
pub part_in_two : (bytes : List ℕ) (from n at count : ℕ)
    → at ≡ min from (length bytes) → count ≡ min n (length bytes - at)
    → take count (drop at bytes) ++ replicate (n - count) 0 ≡ part bytes from n
unfolding part
part_in_two bytes from n at count e f = grind (arith, common_steps, take_over)
