-- The spans of a buffer, one for each of its pages.
use Rattle.std.proofs.Common.{◌≡◌, ◌∙◌, ℕ, ◌+◌, ◌-◌, ◌*◌, ◌/◌, ◌%◌, ◌<◌, ◌≤◌, List, [], ◌∷◌, ◌++◌, append-nil, ap}
use Rattle.std.proofs.Common.{arith, get_or, length, refl}
use Rattle.std.proofs.lemmas.List.Elements.{All-push}
use Rattle.nv_prp.specs.Buffer.{IsBuffer, buffer_place, buffer_places}
use Rattle.nv_prp.specs.Place.{LieIn, places, span_places}
use Rattle.nv_prp.proofs.Words.{common_steps, div-add-mod', div-mul-add, div_below, flat_map-append, IsPageSize}
use Rattle.nv_prp.proofs.Words.{mod-mul-add, mod_below, most_bytes, page_size_bounds, Span}
use Rattle.nv_prp.proofs.PageLaws.{page_times}
use Rattle.nv_prp.proofs.PlaceLaws.{length-table, table-append, table-same}

-- the page of a byte of the buffer is one of its pages
pub page_there : (bytes pages : List ℕ) (page_size start from most : ℕ) → 0 < most
    → IsBuffer bytes page_size pages start (from + most) → (start + from) / page_size < length pages
page_there bytes pages page_size start from most some buffer =
    div_below (start + from) page_size (length pages) (omega (arith, buffer.below)) (omega (arith, buffer.enough))

-- the address of a buffer's byte is in the page of its index, at its offset in the page
pub address_of : (page_size : ℕ) (pages : List ℕ) (start from : ℕ)
    → buffer_place page_size pages start from
    ≡ get_or pages ((start + from) / page_size) 0 * page_size + (start + from) % page_size
unfolding buffer_place
address_of page_size pages start from = refl

-- the page of a byte of the buffer lies in the memory from that byte to its end
pub rest_inside : (bytes pages : List ℕ) (page_size start from most : ℕ) → 0 < most
    → IsBuffer bytes page_size pages start (from + most)
    → buffer_place page_size pages start from + (page_size - (start + from) % page_size) ≤ length bytes
unfolding buffer_place
rest_inside bytes pages page_size start from most some buffer = grind (arith, common_steps, page_there, mod_below)

pub ruleset one_span = (page_there, address_of, rest_inside, page_times, page_size_bounds, mod_below)

-- ---- one span after another

-- bytes of a buffer that lie in one page have consecutive places
in_one_page : (page_size : ℕ) (pages : List ℕ) (start from n k : ℕ)
    → n ≤ page_size - (start + from) % page_size → k < n
    → buffer_place page_size pages start (from + k) ≡ buffer_place page_size pages start from + k
unfolding buffer_place
in_one_page page_size pages start from n k fits h =
    let at = start + from in
    let q = at / page_size in
    let r = at % page_size in
    let split : q * page_size + r ≡ at = div-add-mod' at page_size in
    let is : start + (from + k) ≡ q * page_size + (r + k) = omega (arith, split) in
    let below : r + k < page_size = omega arith in
    ap (λ n. get_or pages (n / page_size) 0 * page_size + n % page_size) is
    ∙ ap (λ j. get_or pages j 0 * page_size + (q * page_size + (r + k)) % page_size)
    (div-mul-add q page_size (r + k) below)
    ∙ ap (λ m. get_or pages q 0 * page_size + m) (mod-mul-add q page_size (r + k) below)
    ∙ omega arith

-- spans of a buffer's first bytes and a span in the page of the next byte are the spans of as many bytes more
pub places_more : (page_size : ℕ) (pages : List ℕ) (start from : ℕ) (spans : List Span) (s : Span)
    → places spans ≡ buffer_places page_size pages start from
    → s.address ≡ buffer_place page_size pages start from
    → s.len ≤ page_size - (start + from) % page_size
    → places (spans ++ s ∷ []) ≡ buffer_places page_size pages start (from + s.len)
unfolding places span_places buffer_places
places_more page_size pages start from spans s so_far at fits =
    grind (arith, common_steps, table-same, in_one_page, flat_map-append, append-nil, table-append)

-- spans in a memory and one more span in it all lie in it
pub inside_more : (size : ℕ) (spans : List Span) (s : Span) → LieIn size spans → s.address + s.len ≤ size
    → LieIn size (spans ++ s ∷ [])
unfolding LieIn
inside_more size spans s inside fits = All-push (λ x. x.address + x.len ≤ size) spans s inside fits

-- if more bytes are left, the next one begins a page
pub next_page_begins : (page_size start from n len : ℕ) → 0 < page_size
    → len ≡ page_size - (start + from) % page_size → n ≤ (start + from) / page_size
    → n + 1 ≤ (start + (from + len)) / page_size
next_page_begins page_size start from n len some whole few =
    grind (arith, common_steps, div-add-mod', mod_below, div-mul-add)

-- a buffer of at most the greatest length has fewer than 257 spans before the last one
pub few_spans : (page_size start from n : ℕ) → IsPageSize page_size → start < page_size → from < most_bytes
    → n ≤ (start + from) / page_size → n < 257
few_spans page_size start from n is low below few = grind (arith, common_steps, page_size_bounds, div_below)

-- no spans have the places of a buffer's first 0 bytes
pub no_places : (page_size : ℕ) (pages : List ℕ) (start : ℕ) → places [] ≡ buffer_places page_size pages start 0
unfolding places buffer_places
no_places page_size pages start = refl

-- an empty list of spans lies in any memory
pub none_outside : (size : ℕ) → LieIn size []
unfolding LieIn
none_outside size k d below = absurd (omega arith)

-- a buffer of `len` bytes has `len` places
pub length-buffer_places : (page_size : ℕ) (pages : List ℕ) (start len : ℕ)
    → length (buffer_places page_size pages start len) ≡ len
unfolding buffer_places
length-buffer_places page_size pages start len = length-table len (buffer_place page_size pages start)

pub ruleset spans =
    (places_more, inside_more, next_page_begins, few_spans, no_places, none_outside, length-buffer_places)
