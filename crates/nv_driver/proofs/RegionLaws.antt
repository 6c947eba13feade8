-- Parts of the memory that don't overlap a command's pages, its list or a slot of a ring.
use Rattle.nv_driver.proofs.Words.{ℕ, ◌*◌, ◌+◌, ◌-◌, ◌/◌, ◌<◌, ◌∙◌, ◌≡◌, ◌≢◌, ◌≤◌, ◌⊎◌, AreApart, AreDistinct}
use Rattle.nv_driver.proofs.Words.{AreOutside, ChangesOnly, Cqe, HoldsSent, IsApart, IsBuffer, IsOutside, KeepsList}
use Rattle.nv_driver.proofs.Words.{List, PagesStay, PostNumbers, Sent, Setting, Sqe, SubmitNumbers, ap, arith}
use Rattle.nv_driver.proofs.Words.{buffer_distinct, buffer_place, buffer_places, bytes_at, bytes_of_cqe, bytes_of_sqe}
use Rattle.nv_driver.proofs.Words.{cases_lt, completion_at, cqe_of_bytes, data_length, div_below, get_or}
use Rattle.nv_driver.proofs.Words.{get_or-bytes_at, get_or-map, get_or-table, inl, inr, length, length-read_at}
use Rattle.nv_driver.proofs.Words.{length-table, length-written_at, mod_below, mul-le-mul_right, own_pages, part_stays}
use Rattle.nv_driver.proofs.Words.{places, pointed, read_at, same_number_lists, slot_within, sqe_of_bytes}
use Rattle.nv_driver.proofs.Words.{submission_at, suc, sym, with_bytes, with_completion, with_submission, written_at}
use Rattle.nv_host.proofs.BytesLaws.{bytes_at-bytes_at, bytes_at-with_after, bytes_at-with_before}
use Rattle.nv_layout.proofs.RecordLaws.{length-bytes_of_cqe, length-bytes_of_sqe}
use Rattle.nv_queue.specs.Slots.{completion_place, put_as, submission_place}
use Rattle.nv_driver.proofs.DataLaws.{ArePlaces, sent_same}

-- ---- places and pages

-- a place is in one of the pages
pub record InPage (page_size : ℕ) (pages : List ℕ) (place : ℕ) : Type 0 where
  pub index : ℕ
  pub is_one : index < length pages
  pub from : get_or pages index 0 * page_size ≤ place
  pub to : place < get_or pages index 0 * page_size + page_size

-- each place of a buffer is in one of its pages
pub place_page : (page_size : ℕ) (pages : List ℕ) (offset len k : ℕ) → 0 < page_size
    → offset + len ≤ length pages * page_size → k < len
    → InPage page_size pages (get_or (buffer_places page_size pages offset len) k 0)
unfolding buffer_places buffer_place
place_page page_size pages offset len k some enough below =
    let at = offset + k in
    let is = get_or-table len (buffer_place page_size pages offset) k 0 below in
    let rest = mod_below at page_size some in
    record {
      index = at / page_size;
      is_one = div_below at page_size (length pages) some (omega arith);
      from = omega (arith, is);
      to = omega (arith, is, rest);
    }

-- two distinct pages don't overlap
pages_apart : (page_size p q : ℕ) → p ≢ q
    → (p * page_size + page_size ≤ q * page_size) ⊎ (q * page_size + page_size ≤ p * page_size)
pages_apart page_size p q differ =
    elim (cases_lt p q) [
      | inl l ↦ inl (omega (arith, mul-le-mul_right page_size l))
      | inr g ↦ let after : q + 1 ≤ p = omega (arith, differ) in inr (omega (arith, mul-le-mul_right page_size after))
    ]

-- if x and y have no page in common, y and x have none
pub apart-sym : (x y : Sent) → AreApart x y → AreApart y x
apart-sym x y apart i d h j e low same = apart j e low i d h (sym same)

-- ---- what doesn't change

-- a command has as many places as bytes of data
pub length-places : (page_size : ℕ) (x : Sent) → length (places page_size x) ≡ data_length x
unfolding buffer_places
length-places page_size x = length-table (data_length x) (buffer_place page_size x.pages x.offset)

-- the places of a command's data in distinct pages of the memory are distinct places in the memory
pub buffer_data : (page_size : ℕ) (x : Sent) (mem : List ℕ) → 0 < page_size
    → IsBuffer mem page_size x.pages x.offset (data_length x)
    → AreDistinct x.pages → ArePlaces x.request.transfer (length mem) (places page_size x)
buffer_data page_size x mem some buffer distinct =
    let size = length-places page_size x in
    record {
      size = size;
      inside = λ k below.
          let low : k < data_length x = omega arith in
          in_page (get_or (places page_size x) k 0)
          (place_page page_size x.pages x.offset (data_length x) k some buffer.enough low);
      distinct =
          buffer_distinct page_size x.pages x.offset (data_length x) some buffer.enough distinct;
    }
  where
    in_page : (place : ℕ) → InPage page_size x.pages place → place < length mem
    in_page place page =
        let has = buffer.inside page.index 0 page.is_one in omega (arith, has, page.to)

-- a part outside a command's pages doesn't change when its data is written
pub data_keeps : (page_size : ℕ) (x : Sent) (bytes written : List ℕ) (from n : ℕ) → 0 < page_size
    → x.offset + data_length x ≤ length x.pages * page_size → AreOutside page_size x from n
    → bytes_at (written_at bytes (places page_size x) written) from n ≡ bytes_at bytes from n
data_keeps page_size x bytes written from n some enough outside =
    part_stays bytes (places page_size x) written from n
    (λ k h.
    let size = length-places page_size x in
    let page = place_page page_size x.pages x.offset (data_length x) k some enough (omega arith) in
    let one = page.is_one in
    grind (arith, page.from, page.to, outside (suc (suc page.index)) 0 (omega arith)))

-- a part outside a region doesn't change when bytes are written inside
pub written_keeps : (bytes xs : List ℕ) (base size at from n : ℕ) → base ≤ at → at + length xs ≤ base + size
    → at + length xs ≤ length bytes → IsApart base size from n
    → bytes_at (with_bytes bytes at xs) from n ≡ bytes_at bytes from n
written_keeps bytes xs base size at from n low high inside apart =
    elim apart [
      | inl before ↦ bytes_at-with_before bytes at xs from n (omega arith) inside
      | inr behind ↦ bytes_at-with_after bytes at xs from n (omega arith) inside
    ]

-- a part outside a ring doesn't change when a completion is posted, or a command is submitted
pub completion_keeps : (bytes : List ℕ) (ring : PostNumbers) (c : Cqe) (from n : ℕ) → 0 < ring.depth
    → ring.base + 16 * ring.depth ≤ length bytes → IsApart ring.base (16 * ring.depth) from n
    → bytes_at (with_completion bytes ring c) from n ≡ bytes_at bytes from n
completion_keeps bytes ring c from n some inside =
    let low = slot_within ring.depth ring.posted some in
    let len = length-bytes_of_cqe (put_as ring c) in
    written_keeps bytes (bytes_of_cqe (put_as ring c)) ring.base (16 * ring.depth)
    (completion_place ring.base ring.depth ring.posted) from n (omega arith) (omega arith) (omega arith)

-- bytes outside a submission ring don't change when a command is submitted
pub submission_keeps : (bytes : List ℕ) (ring : SubmitNumbers) (c : Sqe) (from n : ℕ) → 0 < ring.depth
    → ring.base + 64 * ring.depth ≤ length bytes → IsApart ring.base (64 * ring.depth) from n
    → bytes_at (with_submission bytes ring c) from n ≡ bytes_at bytes from n
submission_keeps bytes ring c from n some inside =
    let low = slot_within ring.depth ring.submitted some in
    let len = length-bytes_of_sqe c in
    written_keeps bytes (bytes_of_sqe c) ring.base (64 * ring.depth)
    (submission_place ring.base ring.depth ring.submitted) from n (omega arith) (omega arith) (omega arith)

-- ---- what is read

-- a part of one byte is that byte
byte_at : (bytes : List ℕ) (from : ℕ) → get_or (bytes_at bytes from 1) 0 0 ≡ get_or bytes from 0
byte_at bytes from = get_or-bytes_at bytes from 1 0 (omega arith)
    ∙ ap (λ k. get_or bytes k 0) (let e : from + 0 ≡ from = omega arith in e)

-- bytes that don't change are read as before
pub read_keeps : (old new at : List ℕ)
    → ((k : ℕ) → k < length at → bytes_at new (get_or at k 0) 1 ≡ bytes_at old (get_or at k 0) 1)
    → read_at new at ≡ read_at old at
unfolding read_at
read_keeps old new at same =
    let size = length-read_at new at in
    same_number_lists _ _ (size ∙ sym (length-read_at old at))
    (λ k h. let below : k < length at = omega (arith, size) in
    get_or-map (λ p. get_or new p 0) at k 0 0 below
    ∙ (sym (byte_at new (get_or at k 0)) ∙ ap (λ bytes. get_or bytes 0 0) (same k below) ∙ byte_at old (get_or at k 0))
    ∙ sym (get_or-map (λ p. get_or old p 0) at k 0 0 below))

-- ---- what a command's pages and one ring change

-- only the pages of x and the n bytes from `base` on change
abbrev pub ChangesOnlyAt : Setting → Sent → ℕ → ℕ → List ℕ → List ℕ → Type 0
ChangesOnlyAt t x base n old new =
    (from k : ℕ) → AreOutside t.page_size x from k → IsApart base n from k → bytes_at new from k ≡ bytes_at old from k

-- a part of bytes that don't change doesn't change
part_same : (old new : List ℕ) (from n part k : ℕ) → bytes_at new from n ≡ bytes_at old from n → from ≤ part
    → part + k ≤ from + n → bytes_at new part k ≡ bytes_at old part k
part_same old new from n part k same low high =
    let at : from + (part - from) ≡ part = omega arith in
    let inside : part - from + k ≤ n = omega arith in
    ap (λ i. bytes_at new i k) (sym at) ∙ sym (bytes_at-bytes_at new from n (part - from) k inside)
    ∙ ap (λ m. bytes_at m (part - from) k) same
    ∙ bytes_at-bytes_at old from n (part - from) k inside ∙ ap (λ i. bytes_at old i k) at

-- a slot of a ring whose bytes don't change
pub submission_same : (t : Setting) (old new : List ℕ) (s : ℕ)
    → bytes_at new t.sq (64 * t.depth) ≡ bytes_at old t.sq (64 * t.depth) → s < t.depth
    → submission_at new t.sq s ≡ submission_at old t.sq s
submission_same t old new s same below =
    ap sqe_of_bytes (part_same old new t.sq (64 * t.depth) (t.sq + 64 * s) 64 same (omega arith) (omega arith))

-- a completion in a slot doesn't change if the bytes of the ring don't
pub completion_same : (t : Setting) (old new : List ℕ) (s : ℕ)
    → bytes_at new t.cq (16 * t.depth) ≡ bytes_at old t.cq (16 * t.depth) → s < t.depth
    → completion_at new t.cq s ≡ completion_at old t.cq s
completion_same t old new s same below =
    ap cqe_of_bytes (part_same old new t.cq (16 * t.depth) (t.cq + 16 * s) 16 same (omega arith) (omega arith))

-- what the host sends doesn't change if the data doesn't
pub holds_sent_on : (t : Setting) (x : Sent) (old new : List ℕ)
    → read_at new (places t.page_size x) ≡ read_at old (places t.page_size x)
    → HoldsSent t.page_size x old → HoldsSent t.page_size x new
holds_sent_on t x old new same holds =
    sent_same x.request.transfer old new (places t.page_size x) same ∙ holds

-- ---- the pages of a command's list

-- the list doesn't change when the command's own data is written
pub written_list : (page_size : ℕ) (x : Sent) (bytes written : List ℕ) → 0 < page_size
    → x.offset + data_length x ≤ length x.pages * page_size → AreDistinct (own_pages x)
    → KeepsList (pointed page_size x bytes) x.first x.second (written_at bytes (places page_size x) written)
written_list page_size x bytes written some enough distinct = record {
  len = length-written_at bytes (places page_size x) written;
  in_first = λ many. page_stays 0 (omega arith);
  in_second = λ many. page_stays 1 (omega arith);
}
  where
    page_stays : (i : ℕ) → i < 2
        → bytes_at (written_at bytes (places page_size x) written) (get_or (own_pages x) i 0 * page_size) page_size
        ≡ bytes_at bytes (get_or (own_pages x) i 0 * page_size) page_size
    page_stays i low =
        let page = get_or (own_pages x) i 0 in
        part_stays bytes (places page_size x) written (page * page_size) page_size
        (λ k below. let size = length-places page_size x in
        let at = get_or (places page_size x) k 0 in
        let one = place_page page_size x.pages x.offset (data_length x) k some enough (omega arith) in
        let inside = one.is_one in
        let apart = pages_apart page_size (get_or x.pages one.index 0) page
        (λ same. distinct i (suc (suc one.index)) 0 (omega arith) (omega arith) (sym same)) in
        grind (arith, apart, one.from, one.to))

-- a part outside a page is apart from the bytes of the page
beside : (page_size page base n : ℕ) → IsOutside page_size page base n → IsApart base n (page * page_size) page_size
beside page_size page base n outside = grind arith

-- ---- a command's list and its data

-- neither a command's list nor its data changes
pub record Stays (t : Setting) (x : Sent) (old new : List ℕ) : Type 0 where
  pub list : KeepsList (pointed t.page_size x old) x.first x.second new
  pub read : read_at new (places t.page_size x) ≡ read_at old (places t.page_size x)

-- both don't change if the command's pages don't
pub same_stays : (t : Setting) (x : Sent) (old new : List ℕ) → 0 < t.page_size → length new ≡ length old
    → x.offset + data_length x ≤ length x.pages * t.page_size → PagesStay t.page_size x old new → Stays t x old new
same_stays t x old new some len enough same = record {
  list = record { len = len; in_first = λ many. same 0 0 (omega arith); in_second = λ many. same 1 0 (omega arith) };
  read = read_keeps old new (places t.page_size x) (λ k below.
      let size = length-places t.page_size x in
      let page = place_page t.page_size x.pages x.offset (data_length x) k some enough (omega arith) in
      let inside = page.is_one in
      part_same old new (get_or x.pages page.index 0 * t.page_size) t.page_size (get_or (places t.page_size x) k 0) 1
      (same (suc (suc page.index)) 0 (omega arith)) page.from (omega (arith, page.to)));
}

-- both stay if only bytes outside the command's pages change
pub stays_beside : (t : Setting) (x : Sent) (base n : ℕ) (old new : List ℕ) → 0 < t.page_size
    → length new ≡ length old → x.offset + data_length x ≤ length x.pages * t.page_size
    → AreOutside t.page_size x base n → ChangesOnly base n old new → Stays t x old new
stays_beside t x base n old new some len enough outside only =
    same_stays t x old new some len enough (λ i d h. let page = get_or (own_pages x) i d in
    only (page * t.page_size) t.page_size (beside t.page_size page base n (outside i d h)))

-- both stay even if another command's pages change too
pub stays_apart : (t : Setting) (x y : Sent) (base n : ℕ) (old new : List ℕ) → 0 < t.page_size
    → length new ≡ length old → ChangesOnlyAt t x base n old new
    → y.offset + data_length y ≤ length y.pages * t.page_size → AreApart y x → AreOutside t.page_size y base n
    → Stays t y old new
stays_apart t x y base n old new some len only enough apart outside =
    same_stays t y old new some len enough (λ i d h. let page = get_or (own_pages y) i d in
    only (page * t.page_size) t.page_size
    (λ j e low. grind (arith, pages_apart t.page_size page (get_or (own_pages x) j e) (apart i d h j e low)))
    (beside t.page_size page base n (outside i d h)))
