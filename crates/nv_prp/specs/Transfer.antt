-- A transfer between a memory and a controller, described by two PRP entries: the place of each
-- byte.
use Rattle.std.specs.Prelude.{◌≡◌, ℕ, zero, suc, ◌==◌, ◌+◌, ◌-◌, ◌*◌, ◌/◌, ◌%◌, ◌&&◌, ◌<◌, List, None}
use Rattle.std.specs.Prelude.{Option, Some, if◌then◌else◌, length, min, nat_le, nat_lt}
use Rattle.std.specs.Int.{div_ceil, from_le_bytes, w64}
use Rattle.std.specs.Option.{option_or}
use Rattle.nv_host.specs.Bytes.{bytes_at}
use Rattle.nv_prp.specs.Place.{table}
use Rattle.nv_prp.specs.declared.error.PrpError.{PrpError}
use Rattle.nv_prp.specs.declared.error.PrpError.TheVariants.{Offset, Outside}
use Rattle.nv_prp.specs.declared.spans.Span.{Span}

-- the greatest length of a transfer: 1 MiB
abbrev pub most_bytes : ℕ
most_bytes = 1048576

-- a transfer: the page size, the host's memory, both PRP entries, and how many bytes are transferred
pub record PrpTransfer : Type 0 where
  pub page_size : ℕ
  pub bytes : List ℕ
  pub prp1 : ℕ
  pub prp2 : ℕ
  pub len : ℕ

-- the transfer with these values
abbrev pub transfer : ℕ → List ℕ → ℕ → ℕ → ℕ → PrpTransfer
transfer page_size bytes prp1 prp2 len =
    record { page_size = page_size; bytes = bytes; prp1 = prp1; prp2 = prp2; len = len }

-- the offset of the first byte in its page
abbrev pub offset : PrpTransfer → ℕ
offset t = t.prp1 % t.page_size

-- how many pages the bytes lie in
abbrev pub data_pages : PrpTransfer → ℕ
data_pages t = div_ceil (offset t + t.len) t.page_size

-- ---- the list, if there are more than two data pages

-- the Qword at an address
unfoldable pub qword : List ℕ → ℕ → ℕ
qword bytes addr = from_le_bytes w64 (bytes_at bytes addr 8)

-- how many Qwords of a list are used, if its first page has room for `room`: one for each data page
-- but the first, and one for the address of its second page if they don't fit
abbrev pub list_qwords : ℕ → ℕ → ℕ
list_qwords room pages = if nat_lt room (pages - 1) then pages else pages - 1

-- the index of the list's Qword that holds the address of data page j, for j from 1 on: in a list
-- of two pages the last Qword of the first page holds the address of the second page, so the Qwords
-- after it are one further
abbrev pub naming_number : ℕ → ℕ → ℕ → ℕ
naming_number room pages j = if nat_le room j && nat_lt room (pages - 1) then j else j - 1

-- the address of Qword n of a list that continues at `second` where the room of its first page ends
abbrev pub list_place : ℕ → ℕ → ℕ → ℕ → ℕ
list_place room first second n = if nat_lt n room then first + 8 * n else second + 8 * (n - room)

-- how many Qwords there are from the list's first one to the end of its page
abbrev pub room : PrpTransfer → ℕ
room t = (t.page_size - t.prp2 % t.page_size) / 8

-- in a list of two pages, the last Qword of the first page is the address of the second page
abbrev pub second_page : PrpTransfer → ℕ
second_page t = qword t.bytes (t.prp2 + 8 * (room t - 1))

-- the address of Qword n of the list
unfoldable pub qword_place : PrpTransfer → ℕ → ℕ
qword_place t n = list_place (room t) t.prp2 (second_page t) n

-- how many Qwords of the list are used
unfoldable pub qwords : PrpTransfer → ℕ
qwords t = if nat_lt 2 (data_pages t) then list_qwords (room t) (data_pages t) else 0

-- the index of the list's Qword that holds the address of data page j, for j from 1 on
unfoldable pub naming_qword : PrpTransfer → ℕ → ℕ
naming_qword t j = naming_number (room t) (data_pages t) j

-- ---- the place of each byte

-- where data page j begins
unfoldable pub page_base : PrpTransfer → ℕ → ℕ
page_base t zero = t.prp1 - offset t
page_base t (suc j) =
    if nat_lt 2 (data_pages t)
    then qword t.bytes (qword_place t (naming_qword t (suc j)))
    else t.prp2

-- the place of byte i
unfoldable pub place_of : PrpTransfer → ℕ → ℕ
place_of t i =
    let at = offset t + i in
    page_base t (at / t.page_size) + at % t.page_size

-- the places of all bytes, in order
unfoldable pub transfer_places : PrpTransfer → List ℕ
transfer_places t = table t.len (place_of t)

-- the index of the first byte of data page j, or the number of bytes if there is no such page
abbrev pub first_byte : PrpTransfer → ℕ → ℕ
first_byte t j = min t.len (j * t.page_size - offset t)

-- the bytes of data page j
unfoldable pub span_of : PrpTransfer → ℕ → Span
span_of t j =
    record { address = place_of t (first_byte t j); len = first_byte t (j + 1) - first_byte t j }

-- the bytes of all data pages, in order
unfoldable pub spans_of : PrpTransfer → List Span
spans_of t = table (data_pages t) (span_of t)

-- ---- which transfers are legal

-- an entry is a multiple of its alignment, and its page lies in the memory. The memory consists of
-- whole pages, so a Qword lies in it if its page does
unfoldable pub entry_fault : ℕ → ℕ → ℕ → ℕ → Option PrpError
entry_fault page_size size alignment entry =
    if entry % alignment == 0
    then (if nat_le (entry - entry % page_size + page_size) size then None else Some Outside)
    else Some Offset

-- PRP1 is a multiple of 4, and its page lies in the memory
abbrev pub prp1_fault : PrpTransfer → Option PrpError
prp1_fault t = entry_fault t.page_size (length t.bytes) 4 t.prp1

-- PRP2 has no meaning for one data page, is the address of the second of two, and else that of the list
unfoldable pub prp2_fault : PrpTransfer → Option PrpError
prp2_fault t =
    if nat_lt 2 (data_pages t)
    then entry_fault t.page_size (length t.bytes) 8 t.prp2
    else (if data_pages t == 2
    then entry_fault t.page_size (length t.bytes) t.page_size t.prp2
    else None)

-- Qword n of the list is the address of a data page or of the second list page
unfoldable pub qword_fault : PrpTransfer → ℕ → Option PrpError
qword_fault t n =
    entry_fault t.page_size (length t.bytes) t.page_size (qword t.bytes (qword_place t n))

-- no entry and no Qword of the list that is used has a fault
pub record IsLegal (t : PrpTransfer) : Type 0 where
  pub prp1 : prp1_fault t ≡ None
  pub prp2 : prp2_fault t ≡ None
  pub list : (n : ℕ) → n < qwords t → qword_fault t n ≡ None

-- the fault of the first of the n Qwords that has one
abbrev pub first_qword_fault : PrpTransfer → ℕ → Option PrpError
first_qword_fault t zero = None
first_qword_fault t (suc n) = option_or (first_qword_fault t n) (qword_fault t n)

-- the first fault from PRP2 on
abbrev pub fault_after_prp1 : PrpTransfer → Option PrpError
fault_after_prp1 t = option_or (prp2_fault t) (first_qword_fault t (qwords t))

-- the first fault, in the order PRP1, PRP2, and then the Qwords as they are used
unfoldable pub first_fault : PrpTransfer → Option PrpError
first_fault t = option_or (prp1_fault t) (fault_after_prp1 t)
