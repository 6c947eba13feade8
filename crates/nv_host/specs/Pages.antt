-- A memory in pages.
use Rattle.std.specs.Prelude.{ℕ, ◌==◌, ◌+◌, ◌*◌, ◌/◌, ◌%◌, ◌^◌, ◌≤◌, ◌&&◌, Bool, IsTrue, List, [], ◌∷◌, length, nat_lt}
use Rattle.std.specs.List.{list_any}

-- the five sizes that a page can have
abbrev pub is_page_size : ℕ → Bool
is_page_size size = list_any (λ one. one == size) (4096 ∷ 8192 ∷ 16384 ∷ 32768 ∷ 65536 ∷ [])

-- a page size is one of the five
unfoldable pub IsPageSize : ℕ → Type 0
IsPageSize size = IsTrue (is_page_size size)

-- so many bytes are whole pages of one of the five sizes, fewer than 2 ^ 32
abbrev pub are_pages : ℕ → ℕ → Bool
are_pages page_size size =
    is_page_size page_size && (size % page_size == 0) && nat_lt (size / page_size) (2 ^ 32)

-- page n lies in the memory
abbrev pub HasPage : List ℕ → ℕ → ℕ → Type 0
HasPage bytes page_size n = (n + 1) * page_size ≤ length bytes

-- a memory's bytes, and how many of them a page has
pub record PagedBytes : Type 0 where
  pub page_size : ℕ
  pub bytes : List ℕ
