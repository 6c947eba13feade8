-- Blocks before and after changes.
use Rattle.std.proofs.Common.{◌≡◌, ◌≢◌, ◌∙◌, if◌then◌else◌, nat_le, nat_lt, ℕ, zero, suc, ◌+◌, ◌-◌, ◌*◌, ◌/◌, ◌<◌}
use Rattle.std.proofs.Common.{◌≤◌, ◌&&◌}
use Rattle.std.proofs.Common.{Bool, true, false, ap, arith, inl, inr, length, refl, sym, List, ◌++◌, replicate, take}
use Rattle.std.proofs.Math.Nat.{mul-le-mul_left}
use Rattle.std.proofs.lemmas.Bool.{and_from, and_left, and_parts, and_right, cases_lt, eq-eqb, le-leb, le-ltb}
use Rattle.std.proofs.lemmas.Bool.{leb-true, lt-leb, lt-ltb, ltb-true, ne_eqb}
use Rattle.std.proofs.lemmas.List.{drop-replicate, length-replicate, take-replicate}
use Rattle.nv_host.proofs.BytesLaws.{bytes_at-bytes_at, bytes_at-with_after, bytes_at-with_before, bytes_at-with_same}
use Rattle.nv_host.proofs.BytesLaws.{length-with_bytes}
use Rattle.nv_host.specs.Bytes.{bytes_at, with_bytes}
use Rattle.nv_blocks.proofs.BlockLaws.{blocks_inside}
use Rattle.nv_blocks.proofs.RangeLaws.{each_within}
use Rattle.nv_blocks.specs.History.{Change, Cleared, Written, changed, cleared_ranges, is_among, newest}
use Rattle.nv_blocks.specs.Ranges.{are_within, deallocated, is_range_within, range_at}
use Rattle.nv_blocks.specs.declared.terms.Namespace.{Namespace}

-- block b of some data
abbrev pub block : List ℕ → ℕ → ℕ → List ℕ
block stored size b = bytes_at stored (b * size) size

-- a block before another one ends where that one begins, or before
pub ends_before : (b first size : ℕ) → b < first → b * size + size ≤ first * size
ends_before b first size below =
    let most : size * (b + 1) ≤ size * first = mul-le-mul_left size (let next : b + 1 ≤ first = omega arith in next) in
    omega arith

-- bytes within written ones are those that were written
part_written : (m : List ℕ) (a : ℕ) (d : List ℕ) (i k : ℕ) → i + k ≤ length d → a + length d ≤ length m
    → bytes_at (with_bytes m a d) (a + i) k ≡ bytes_at d i k
part_written m a d i k within inside =
    sym (bytes_at-bytes_at (with_bytes m a d) a (length d) i k within)
    ∙ ap (λ l. bytes_at l i k) (bytes_at-with_same m a (length d) d inside refl)

-- a part of zeros are zeros
pub zeros_part : (n i k : ℕ) → i + k ≤ n → bytes_at (replicate n 0) i k ≡ replicate k 0
unfolding bytes_at
zeros_part n i k within =
    ap (take k) (drop-replicate i n 0) ∙ take-replicate k (n - i) 0 (omega arith)

-- block b after bytes were written to blocks from the first one on
pub block_written : (stored written : List ℕ) (size first count b : ℕ) → length written ≡ count * size
    → first * size + count * size ≤ length stored
    → block (with_bytes stored (first * size) written) size b
    ≡ (if is_among first count b then block written size (b - first) else block stored size b)
block_written stored written size first count b len inside =
    let new = block written size (b - first) in
    let old = block stored size b in
    let choice : Bool → List ℕ = λ t. if t then new else old in
    let all : first * size + length written ≤ length stored = omega arith in
    elim (cases_lt b first) [
      | inl below ↦
          bytes_at-with_before stored (first * size) written (b * size) size (ends_before b first size below) all
          ∙ sym (ap choice (and_left (nat_le first b) (nat_lt b (first + count)) (lt-leb first b below)))
      | inr from ↦ elim (cases_lt b (first + count)) [
        | inl below ↦
            let j = b - first in
            let is : b ≡ first + j = omega arith in
            let place : first * size + j * size ≡ b * size = omega (arith, ap (λ n. n * size) is) in
            let within : j * size + size ≤ count * size = ends_before j count size (omega arith) in
            ap (λ n. bytes_at (with_bytes stored (first * size) written) n size) (sym place)
            ∙ part_written stored (first * size) written (j * size) size (omega (arith, within, len)) all
            ∙ sym (ap choice (and_from (nat_le first b) (nat_lt b (first + count)) (le-leb first b from)
            (lt-ltb b (first + count) below)))
        | inr past ↦
            bytes_at-with_after stored (first * size) written (b * size) size
            (omega (arith, mul-le-mul_left size past, len)) all
            ∙ sym (ap choice (and_right (nat_le first b) (nat_lt b (first + count)) (le-ltb b (first + count) past)))
      ]
    ]

-- ---- one change

-- a write changes the blocks that it names
pub written_changes : (nsid : ℕ) (stored written : List ℕ) (size first count b : ℕ) → length written ≡ count * size
    → first * size + count * size ≤ length stored
    → block (with_bytes stored (first * size) written) size b
    ≡ changed (Written nsid size first count written) nsid b (block stored size b)
written_changes nsid stored written size first count b len inside =
    block_written stored written size first count b len inside
    ∙ sym (ap (λ t. if t && is_among first count b then block written size (b - first) else block stored size b)
    (eq-eqb nsid nsid refl))

-- blocks that are zeroed are cleared
pub zeros_change : (nsid : ℕ) (stored : List ℕ) (size first count b : ℕ)
    → first * size + count * size ≤ length stored
    → block (with_bytes stored (first * size) (replicate (count * size) 0)) size b
    ≡ changed (Cleared nsid size first count) nsid b (block stored size b)
zeros_change nsid stored size first count b inside =
    block_written stored zeros size first count b (length-replicate {A = ℕ} (count * size) 0) inside
    ∙ by_test (is_among first count b) refl
    ∙ sym (ap (λ t. if t && is_among first count b then replicate size 0 else block stored size b)
    (eq-eqb nsid nsid refl))
  where
    zeros : List ℕ
    zeros = replicate (count * size) 0

    by_test : (t : Bool) → is_among first count b ≡ t
        → (if t then block zeros size (b - first) else block stored size b)
        ≡ (if t then replicate size 0 else block stored size b)
    by_test true is =
        let both = and_parts (nat_le first b) (nat_lt b (first + count)) is in
        let from = leb-true first b both.0 in
        let below = ltb-true b (first + count) both.1 in
        zeros_part (count * size) ((b - first) * size) size (ends_before (b - first) count size (omega arith))
    by_test false is = refl

-- ---- ranges of a list

-- zeroing ranges keeps the length of the data
pub length-deallocated : (size : ℕ) (list stored : List ℕ) (n : ℕ) → 0 < size
    → are_within (length stored / size) list n ≡ true → length (deallocated size list stored n) ≡ length stored
length-deallocated size list stored zero some within = refl
length-deallocated size list stored (suc n) some within =
    let range = range_at list n in
    let before = length-deallocated size list stored n some
    (and_parts (are_within (length stored / size) list n) (is_range_within (length stored / size) range) within).0 in
    let here = leb-true (range.first + range.count) (length stored / size)
    (each_within (length stored / size) list (suc n) n within (omega arith)) in
    let inside = blocks_inside (length stored) size range.first range.count some here in
    length-with_bytes (deallocated size list stored n) (range.first * size) (replicate (range.count * size) 0)
    (omega (arith, before, inside, length-replicate {A = ℕ} (range.count * size) 0))
    ∙ before

-- the ranges of a list that are deallocated are cleared
pub ranges_cleared : (namespace : Namespace) (list stored : List ℕ) (older : List Change) (n b : ℕ)
    → are_within (length stored / namespace.block_size) list n ≡ true
    → block stored namespace.block_size b ≡ newest older namespace.nsid b
    → block (deallocated namespace.block_size list stored n) namespace.block_size b
    ≡ newest (cleared_ranges namespace list n ++ older) namespace.nsid b
ranges_cleared namespace list stored older zero b within before = before
ranges_cleared namespace list stored older (suc n) b within before =
    let size = namespace.block_size in
    let range = range_at list n in
    let earlier = (and_parts (are_within (length stored / size) list n)
    (is_range_within (length stored / size) range) within).0 in
    let here = leb-true (range.first + range.count) (length stored / size)
    (each_within (length stored / size) list (suc n) n within (omega arith)) in
    let inside = blocks_inside (length stored) size range.first range.count namespace.some_bytes here in
    zeros_change namespace.nsid (deallocated size list stored n) size range.first range.count b
    (omega (arith, length-deallocated size list stored n namespace.some_bytes earlier, inside))
    ∙ ap (changed (Cleared namespace.nsid size range.first range.count) namespace.nsid b)
    (ranges_cleared namespace list stored older n b earlier before)

-- they change no other namespace
pub ranges_of_another : (namespace : Namespace) (list : List ℕ) (older : List Change) (k n b : ℕ) → namespace.nsid ≢ n
    → newest (cleared_ranges namespace list k ++ older) n b ≡ newest older n b
ranges_of_another namespace list older zero n b other = refl
ranges_of_another namespace list older (suc k) n b other =
    let range = range_at list k in
    let before = newest (cleared_ranges namespace list k ++ older) n b in
    ap (λ t. if t && is_among range.first range.count b then replicate namespace.block_size 0 else before)
    (ne_eqb namespace.nsid n other)
    ∙ ranges_of_another namespace list older k n b other
