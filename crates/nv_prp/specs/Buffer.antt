-- A buffer in pages, and the list of their addresses.
use Rattle.std.specs.Prelude.{◌≡◌, ℕ, ◌+◌, ◌*◌, ◌/◌, ◌%◌, ◌<◌, ◌≤◌, ◌⊎◌, All, List, length, slice_index}
use Rattle.nv_host.specs.Bytes.{bytes_at}
use Rattle.nv_host.specs.Pages.{HasPage}
use Rattle.nv_prp.specs.Place.{AreDistinct, table}
use Rattle.nv_prp.specs.Transfer.{IsLegal, PrpTransfer, data_pages, list_place, list_qwords, place_of, transfer_places}

-- the place of byte i of a buffer, given the numbers of its pages and its offset in the first page
unfoldable pub buffer_place : ℕ → List ℕ → ℕ → ℕ → ℕ
buffer_place page_size pages offset i =
    let at = offset + i in
    slice_index pages (at / page_size) * page_size + at % page_size

-- the places of all its bytes, in order
unfoldable pub buffer_places : ℕ → List ℕ → ℕ → ℕ → List ℕ
buffer_places page_size pages offset len = table len (buffer_place page_size pages offset)

-- the pages lie in the memory, and hold this number of bytes from the offset on
pub record IsBuffer (bytes : List ℕ) (page_size : ℕ) (pages : List ℕ)
    (offset len : ℕ) : Type 0 where
  pub below : offset < page_size
  pub aligned : offset % 4 ≡ 0
  pub enough : offset + len ≤ length pages * page_size
  pub inside : All (λ page. HasPage bytes page_size page) pages

-- these two pages of the memory can hold a list, from the offset in the first one on
pub record IsListPlace (bytes : List ℕ) (page_size first second offset : ℕ) : Type 0 where
  pub below : offset < page_size
  pub aligned : offset % 8 ≡ 0
  pub has_first : HasPage bytes page_size first
  pub has_second : HasPage bytes page_size second

-- ---- what a list changes

-- the k bytes from `from` on don't overlap the n bytes from `addr` on
abbrev pub IsApart : ℕ → ℕ → ℕ → ℕ → Type 0
IsApart addr n from k = (from + k ≤ addr) ⊎ (addr + n ≤ from)

-- these n bytes don't overlap a page
abbrev pub IsOutside : ℕ → ℕ → ℕ → ℕ → Type 0
IsOutside page_size page from n = IsApart (page * page_size) page_size from n

-- only bytes of two pages change
abbrev pub KeepsOutside : ℕ → ℕ → ℕ → List ℕ → List ℕ → Type 0
KeepsOutside page_size first second old new =
    (from n : ℕ) → IsOutside page_size first from n → IsOutside page_size second from n
    → bytes_at new from n ≡ bytes_at old from n

-- only the Qwords of a list for so many data pages change. It begins at `start`, and continues at
-- `second` where the room of its first page ends
abbrev pub KeepsOutsideList : ℕ → ℕ → ℕ → ℕ → List ℕ → List ℕ → Type 0
KeepsOutsideList room start second pages old new =
    (from n : ℕ)
    → ((q : ℕ) → q < list_qwords room pages → IsApart (list_place room start second q) 8 from n)
    → bytes_at new from n ≡ bytes_at old from n

-- ---- what a built transfer is

-- a legal transfer of a buffer's bytes
pub record IsFor (t : PrpTransfer) (pages : List ℕ) (start : ℕ) : Type 0 where
  pub legal : IsLegal t
  pub places : (i : ℕ) → i < t.len → place_of t i ≡ buffer_place t.page_size pages start i

-- a later memory is as large, and has the same bytes in the list's pages if the transfer has a
-- list
pub record KeepsList (t : PrpTransfer) (first second : ℕ) (later : List ℕ) : Type 0 where
  pub len : length later ≡ length t.bytes
  pub in_first : 2 < data_pages t → bytes_at later (first * t.page_size) t.page_size
      ≡ bytes_at t.bytes (first * t.page_size) t.page_size
  pub in_second : 2 < data_pages t → bytes_at later (second * t.page_size) t.page_size
      ≡ bytes_at t.bytes (second * t.page_size) t.page_size

-- in each such memory it is a legal transfer of the buffer's bytes
abbrev pub StaysFor : PrpTransfer → List ℕ → ℕ → ℕ → ℕ → Type 0
StaysFor t pages start first second = (later : List ℕ) → KeepsList t first second later
    → IsFor (record t { bytes = later }) pages start

-- ---- laws

-- if the clauses about a buffer's entries hold, the places of their transfer are those of the
-- buffer, and are distinct if its pages are
abbrev pub BuiltIsWalked : Type 0
BuiltIsWalked =
    (t : PrpTransfer) (pages : List ℕ) (offset : ℕ) → IsBuffer t.bytes t.page_size pages offset t.len
    → ((i : ℕ) → i < t.len → place_of t i ≡ buffer_place t.page_size pages offset i)
    → (transfer_places t ≡ buffer_places t.page_size pages offset t.len)
    × (AreDistinct pages → AreDistinct (transfer_places t))
