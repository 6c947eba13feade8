-- A page of a memory in one vector, which the memory lends to be changed. (An implementation of the trait can
-- name only what is in specs.)
use Rattle.std.proofs.Common.{◌≡◌, ℕ, ◌*◌, List, arith, length, length-append, length-drop, length-take, take}
use Rattle.std.proofs.lemmas.List.{take_all}
use Rattle.nv_host.specs.Bytes.{with_bytes}
use Rattle.nv_host.specs.Pages.{HasPage, PagedBytes}

-- the memory after the bytes of page n have become these. A vector keeps its length, whatever is written
abbrev pub with_page : PagedBytes → ℕ → List ℕ → PagedBytes
with_page m n page = record m { bytes = take (length m.bytes) (with_bytes m.bytes (n * m.page_size) page) }

-- writing a whole page that lies in the memory writes its bytes at the place of the page
pub only_page : (m : PagedBytes) (n : ℕ) (page : List ℕ) → HasPage m.bytes m.page_size n
    → length page ≡ m.page_size
    → (with_page m n page).bytes ≡ with_bytes m.bytes (n * m.page_size) page
unfolding with_bytes
only_page m n page has whole =
    take_all (length m.bytes) (with_bytes m.bytes (n * m.page_size) page)
    (simp (length-append, length-take, length-drop) (omega arith))
