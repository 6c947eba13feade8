-- What a write to a page changes.
use Rattle.std.specs.Prelude.{◌≡◌, ◌≢◌, ℕ, ◌*◌, List, length}
use Rattle.nv_host.specs.Bytes.{bytes_at, with_bytes}
use Rattle.nv_host.specs.Pages.{HasPage}

-- the bytes of page n
abbrev pub page_at : List ℕ → ℕ → ℕ → List ℕ
page_at bytes page_size n = bytes_at bytes (n * page_size) page_size

-- ---- laws

-- a page has the bytes that were written to it
abbrev pub PageIsWritten : Type 0
PageIsWritten =
    (bytes : List ℕ) (page_size n : ℕ) (page : List ℕ) → HasPage bytes page_size n → length page ≡ page_size
    → page_at (with_bytes bytes (n * page_size) page) page_size n ≡ page

-- no other page changes
abbrev pub PagesStay : Type 0
PagesStay =
    (bytes : List ℕ) (page_size n : ℕ) (page : List ℕ) (other : ℕ) → HasPage bytes page_size n
    → length page ≡ page_size → other ≢ n
    → page_at (with_bytes bytes (n * page_size) page) page_size other ≡ page_at bytes page_size other
