-- A list of more than two data pages, as the walk reads it.
use Rattle.std.specs.Prelude.{◌≡◌, ℕ, ◌+◌, ◌-◌, ◌*◌, ◌&&◌, ◌<◌, ◌≤◌, None, if◌then◌else◌, length, nat_lt}
use Rattle.nv_host.specs.Pages.{IsPageSize}
use Rattle.nv_prp.specs.Transfer.{PrpTransfer, data_pages, entry_fault, first_qword_fault, page_base}
use Rattle.nv_prp.specs.Transfer.{qword, room, second_page}

-- how many Qwords the walk has used before that of data page j, and the address of the next one
abbrev pub used : ℕ → ℕ → ℕ → ℕ
used space pages j = if nat_lt space j && nat_lt space (pages - 1) then j else j - 1

-- the address of the Qword after those that were used before data page j
abbrev pub cursor : ℕ → ℕ → ℕ → ℕ → ℕ → ℕ
cursor space first second pages j =
    if nat_lt space j && nat_lt space (pages - 1)
    then second + 8 * (j - space)
    else first + 8 * (j - 1)

-- how many Qwords of a transfer's list were used before data page j
abbrev pub used_of : PrpTransfer → ℕ → ℕ
used_of t j = used (room t) (data_pages t) j

-- the address of the next Qword of a transfer's list, before data page j
abbrev pub cursor_of : PrpTransfer → ℕ → ℕ
cursor_of t j = cursor (room t) t.prp2 (second_page t) (data_pages t) j

-- the list's address has no fault
pub record IsList (t : PrpTransfer) : Type 0 where
  pub many : 2 < data_pages t
  pub few : data_pages t ≤ 257
  pub size : IsPageSize t.page_size
  pub some : 0 < room t
  pub prp2 : entry_fault t.page_size (length t.bytes) 8 t.prp2 ≡ None
  pub inside : t.prp2 + 8 * room t ≤ length t.bytes

-- a walk has reached data page j, and the next Qword is at this address
pub record Comes (t : PrpTransfer) (j at : ℕ) : Type 0 where
  pub later : 0 < j
  pub here : at ≡ cursor_of t j
  pub none : first_qword_fault t (used_of t j) ≡ None

-- the Qword at this address holds the address of data page j
pub record ListTurn (t : PrpTransfer) (j at : ℕ) : Type 0 where
  pub fault : first_qword_fault t (used_of t (j + 1)) ≡ entry_fault t.page_size (length t.bytes)
      t.page_size (qword t.bytes at)
  pub base : page_base t j ≡ qword t.bytes at
  pub next : cursor_of t (j + 1) ≡ at + 8
  pub inside : at + 8 ≤ length t.bytes
