-- Data pages, by their indices.
use Rattle.std.proofs.Common.{◌≡◌, ◌∙◌, ℕ, zero, suc, ◌+◌, ◌-◌, ◌*◌, ◌<◌, ◌≤◌, ◌++◌, ◌∷◌, [], append-nil, ap, arith}
use Rattle.std.proofs.Common.{length, refl, sym}
use Rattle.nv_prp.specs.Place.{places, span_places}
use Rattle.nv_prp.specs.Transfer.{page_base, place_of, span_of, spans_of, transfer_places}
use Rattle.nv_prp.proofs.Words.{common_steps, data_pages, div-mul-add, div_ceil, div_ceil_times, first_byte}
use Rattle.nv_prp.proofs.Words.{flat_map-append, IsPageSize, le-ltb, mod-mul-add, most_bytes, mul-le-mul}
use Rattle.nv_prp.proofs.Words.{mul-le-mul_right, nat_tests, offset, page_size_bounds, PrpTransfer, Span, table}
use Rattle.nv_prp.proofs.PlaceLaws.{length-table, table-append, table-more, table-same}

-- the data ends in the last data page
pub pages_span : (t : PrpTransfer) → 0 < t.page_size
    → (offset t + t.len ≤ data_pages t * t.page_size) × (data_pages t * t.page_size < offset t + t.len + t.page_size)
pages_span t some = div_ceil_times (offset t + t.len) t.page_size some

-- data page j begins in the transfer
page_begins : (t : PrpTransfer) (j : ℕ) → 0 < t.page_size → j < data_pages t → j * t.page_size < offset t + t.len
page_begins t j some below = grind (arith, nat_tests)

-- a transfer with a byte has at least one data page
pub at_least_one : (t : PrpTransfer) → 0 < t.page_size → 0 < t.len → 0 < data_pages t
at_least_one t some bytes = let span = pages_span t some in grind arith

-- a transfer has at most 257 data pages
pub at_most_257 : (rest len size : ℕ) → IsPageSize size → rest < size → len ≤ most_bytes
    → div_ceil (rest + len) size ≤ 257
at_most_257 rest len size is below limit = grind (arith, common_steps, page_size_bounds, div_ceil_times)

pub ruleset page_counts = (at_most_257, page_size_bounds)

-- the place of a byte of data page j is as far from the page's address as the byte from the page's start
place_in_page : (t : PrpTransfer) (j x : ℕ) → j * t.page_size ≤ offset t + x
    → offset t + x < j * t.page_size + t.page_size
    → place_of t x ≡ page_base t j + (offset t + x - j * t.page_size)
unfolding place_of
place_in_page t j x low high =
    let rest = offset t + x - j * t.page_size in
    let is : offset t + x ≡ j * t.page_size + rest = omega arith in
    cc (div-mul-add j t.page_size rest (omega arith), mod-mul-add j t.page_size rest (omega arith))

-- the address of page j is at most 65,536 times j
pub page_times : (j size : ℕ) → IsPageSize size → j * size ≤ j * 65536
page_times j size is = mul-le-mul (omega arith) (page_size_bounds size is).1

-- j + 1 pages are j pages and one more
pub next_page : (j size : ℕ) → (j + 1) * size ≡ j * size + size
next_page j size = grind arith

-- the first byte of a data page doesn't come after the first byte of the next page
pub first_bytes_rise : (t : PrpTransfer) (j : ℕ) → first_byte t j ≤ first_byte t (j + 1)
first_bytes_rise t j = omega (arith, next_page j t.page_size)

pub ruleset first_bytes = (first_bytes_rise, page_times, next_page, page_size_bounds)

-- a byte of page j is as far from the place of the page's first byte as in the transfer
place_after_first : (t : PrpTransfer) (j k : ℕ) → 0 < t.page_size → j < data_pages t
    → k < first_byte t (j + 1) - first_byte t j
    → place_of t (first_byte t j + k) ≡ place_of t (first_byte t j) + k
place_after_first t j k some below h =
    let begins = page_begins t j some below in
    let next = next_page j t.page_size in
    grind (arith, place_in_page t j (first_byte t j + k), place_in_page t j (first_byte t j))

-- the second of two data pages is the one that PRP2 names
pub base_of_two : (t : PrpTransfer) → data_pages t ≡ 2 → page_base t 1 ≡ t.prp2
unfolding page_base
base_of_two t two = rw (le-ltb 2 (data_pages t) (omega arith))

-- ---- spans

-- the span of data page j begins at the place of its first byte
span_with : (t : PrpTransfer) (j address : ℕ) → place_of t (first_byte t j) ≡ address
    → span_of t j ≡ record { address = address; len = first_byte t (j + 1) - first_byte t j }
unfolding span_of
span_with t j address e = λ i. record { address = e i; len = first_byte t (j + 1) - first_byte t j }

-- the span of data page 0 begins at PRP1
pub first_span : (t : PrpTransfer) → 0 < t.page_size → 0 < t.len
    → span_of t 0 ≡ record { address = t.prp1; len = first_byte t 1 - first_byte t 0 }
unfolding page_base
first_span t some bytes = span_with t 0 t.prp1 (grind (arith, place_in_page t 0 (first_byte t 0)))

-- the span of a later data page begins with the page
pub later_span : (t : PrpTransfer) (j : ℕ) → 0 < t.page_size → 0 < j → j < data_pages t
    → span_of t j ≡ record { address = page_base t j; len = first_byte t (j + 1) - first_byte t j }
later_span t j some later below =
    let begins = page_begins t j some below in
    let one : 1 * t.page_size ≤ j * t.page_size = mul-le-mul_right t.page_size (omega arith) in
    span_with t j (page_base t j) (grind (arith, place_in_page t j (first_byte t j)))

-- a table with one more span is the table and that span
pub table_next : (n : ℕ) (f : ℕ → Span) → table (n + 1) f ≡ table n f ++ f n ∷ []
table_next n f = table-more n (n + 1) f refl

-- a transfer has a span for each of its data pages
pub all_spans : (t : PrpTransfer) → spans_of t ≡ table (data_pages t) (span_of t)
unfolding spans_of
all_spans t = refl

pub ruleset spans = (first_span, later_span, base_of_two, table_next, all_spans, page_size_bounds)

-- the span of data page j has the places of the page's bytes
places_of_span : (t : PrpTransfer) (j : ℕ) → 0 < t.page_size → j < data_pages t
    → span_places (span_of t j) ≡ table (first_byte t (j + 1) - first_byte t j) (λ k. place_of t (first_byte t j + k))
unfolding span_places span_of
places_of_span t j some below =
    table-same (first_byte t (j + 1) - first_byte t j) _ _ (λ k h. sym (place_after_first t j k some below h))

-- the spans of the first j data pages have the places of their bytes
places_of_pages : (t : PrpTransfer) (j : ℕ) → 0 < t.page_size → j ≤ data_pages t
    → places (table j (span_of t)) ≡ table (first_byte t j) (place_of t)
unfolding places
places_of_pages t zero some below =
    let none : 0 ≡ first_byte t 0 = omega arith in ap (λ n. table n (place_of t)) none
places_of_pages t (suc j) some below =
    let parts : first_byte t j + (first_byte t (j + 1) - first_byte t j) ≡ first_byte t (suc j) =
    omega (arith, first_bytes_rise t j) in
    flat_map-append span_places (table j (span_of t)) (span_of t j ∷ [])
    ∙ (λ i. places_of_pages t j some (omega arith) i ++ append-nil (span_places (span_of t j)) i)
    ∙ ap (λ l. table (first_byte t j) (place_of t) ++ l) (places_of_span t j some (omega arith))
    ∙ sym (table-append (first_byte t j) (first_byte t (j + 1) - first_byte t j) (place_of t))
    ∙ ap (λ n. table n (place_of t)) parts

-- the places of the spans of a transfer are the places of its bytes
pub places_of_spans : (t : PrpTransfer) → 0 < t.page_size → places (spans_of t) ≡ transfer_places t
unfolding spans_of transfer_places
places_of_spans t some =
    let all : first_byte t (data_pages t) ≡ t.len = omega (arith, pages_span t some) in
    places_of_pages t (data_pages t) some (omega arith) ∙ ap (λ n. table n (place_of t)) all

-- a transfer has as many places as bytes
pub length_transfer_places : (t : PrpTransfer) → length (transfer_places t) ≡ t.len
unfolding transfer_places
length_transfer_places t = length-table t.len (place_of t)
