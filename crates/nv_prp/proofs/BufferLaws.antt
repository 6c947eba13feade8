-- Buffers and lists in a memory that changes, and the places of a buffer.
use Rattle.std.proofs.Common.{◌≡◌, ℕ, suc, ◌+◌, ◌*◌, ◌/◌, ◌%◌, ◌<◌, ◌≤◌, List, ◌∷◌, arith, get_or, inl, inr, length}
use Rattle.std.proofs.Common.{subst, sym}
use Rattle.nv_prp.specs.Buffer.{IsBuffer, IsListPlace, buffer_place, buffer_places}
use Rattle.nv_prp.specs.Transfer.{place_of, transfer_places}
use Rattle.nv_prp.proofs.Words.{AreDistinct, cases_lt, common_steps, div-add-mod', div_below, mul-le-mul_right}
use Rattle.nv_prp.proofs.Words.{PrpTransfer, same_from_place}
use Rattle.nv_prp.proofs.PlaceLaws.{table-same, table_distinct}

-- if the size of a memory doesn't change, its buffers stay buffers, and its places for lists too

-- a buffer of a memory is one of every memory of the same length
pub buffer_kept : (old new : List ℕ) (page_size : ℕ) (pages : List ℕ) (start len : ℕ) → length new
    ≡ length old
    → IsBuffer old page_size pages start len → IsBuffer new page_size pages start len
buffer_kept old new page_size pages start len same buffer = grind (arith, common_steps)

-- a place for a list in a memory is one in every memory of the same length
pub list_place_kept : (old new : List ℕ) (page_size first second start : ℕ) → length new
    ≡ length old
    → IsListPlace old page_size first second start → IsListPlace new page_size first second start
list_place_kept old new page_size first second start same place = grind (arith, common_steps)

-- ---- the places of a buffer

-- in distinct pages, the places of a buffer are distinct
pub buffer_distinct : (page_size : ℕ) (pages : List ℕ) (start len : ℕ) → 0 < page_size → start + len
    ≤ length pages * page_size
    → AreDistinct pages → AreDistinct (buffer_places page_size pages start len)
unfolding buffer_places buffer_place
buffer_distinct page_size pages start len some enough distinct =
    table_distinct len (buffer_place page_size pages start)
    (λ i k below within e.
    let first = start + i in
    let later = start + k in
    let split_first : first / page_size * page_size + first % page_size ≡ first =
    div-add-mod' first page_size in
    let split_later : later / page_size * page_size + later % page_size ≡ later =
    div-add-mod' later page_size in
    let same = same_from_place (get_or pages (first / page_size) 0) (first % page_size)
    (get_or pages (later / page_size) 0) (later % page_size)
    page_size (omega arith) (omega arith) e in
    elim (cases_lt (first / page_size) (later / page_size)) [
      | inl before ↦
          distinct (first / page_size) (later / page_size) 0 before
          (div_below later page_size (length pages) some (omega arith)) same.0
      | inr after ↦
          let least : later / page_size * page_size ≤ first / page_size * page_size =
          mul-le-mul_right page_size after in
          omega (arith, same.1)
    ])

-- if each byte of a transfer has its place in a buffer, the places of both are the same, and distinct if the pages are
pub built_is_walked : (t : PrpTransfer) (pages : List ℕ) (offset : ℕ)
    → IsBuffer t.bytes t.page_size pages offset t.len
    → ((i : ℕ) → i < t.len → place_of t i ≡ buffer_place t.page_size pages offset i)
    → (transfer_places t ≡ buffer_places t.page_size pages offset t.len)
    × (AreDistinct pages → AreDistinct (transfer_places t))
unfolding transfer_places buffer_places
built_is_walked t pages offset buffer each =
    let same : transfer_places t ≡ buffer_places t.page_size pages offset t.len =
    table-same t.len (place_of t) (buffer_place t.page_size pages offset) each in (
      same,
      λ distinct. subst AreDistinct (sym same)
          (buffer_distinct t.page_size pages offset t.len (omega (arith, buffer.below))
          buffer.enough distinct),
    )

-- without the first two of distinct pages, the pages are distinct
pub rest_distinct : (p q : ℕ) (pages : List ℕ) → AreDistinct (p ∷ q ∷ pages) → AreDistinct pages
rest_distinct p q pages distinct i k d below inside =
    distinct (suc (suc i)) (suc (suc k)) d (omega arith) (omega arith)
