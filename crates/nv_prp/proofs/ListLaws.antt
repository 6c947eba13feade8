-- The Qwords of a list, by their indices.
use Rattle.std.proofs.Common.{◌≡◌, ◌∙◌, ℕ, zero, suc, ◌+◌, ◌-◌, ◌*◌, ◌/◌, ◌%◌, ◌<◌, ◌≤◌, None, Some, ap, arith, length}
use Rattle.nv_prp.specs.Transfer.{entry_fault, naming_qword, page_base, qword, qword_fault, qword_place}
use Rattle.nv_prp.proofs.Words.{Comes, common_steps, cursor_of, data_pages, div-add-mod', fault_after_prp1}
use Rattle.nv_prp.proofs.Words.{first_qword_fault, IsList, IsPageSize, list_place, ListTurn, lt-ltb, naming_number}
use Rattle.nv_prp.proofs.Words.{nat_tests, page_size_bounds, page_size_in_qwords, PrpError, PrpTransfer, room}
use Rattle.nv_prp.proofs.Words.{second_page, used_of}
use Rattle.nv_prp.proofs.FaultLaws.{from_no_fault, each_none, fault_of_list, fault_stays, next_fault}
use Rattle.nv_prp.proofs.PageLaws.{spans}

-- ---- how many Qwords there are to the end of the page

-- an address is a multiple of 8 if and only if its offset in the page is
qwords_stay : (x size : ℕ) → IsPageSize size → x % 8 ≡ 0 → (x % size) % 8 ≡ 0
qwords_stay x size is even =
    let q = size / 8 in
    let whole : size ≡ 8 * q = page_size_in_qwords size is in
    let bounds = page_size_bounds size is in
    let split : x / size * size + x % size ≡ x = div-add-mod' x size in
    let turned : x / size * (8 * q) ≡ 8 * (x / size * q) = grind arith in
    let same : x / size * size ≡ x / size * (8 * q) = ap (λ p. x / size * p) whole in
    omega arith

-- the Qwords from an address that is a multiple of 8 to the end of its page end with the page
pub whole_room : (x size : ℕ) → IsPageSize size → x % 8 ≡ 0 → x + 8 * ((size - x % size) / 8) ≡ x - x % size + size
whole_room x size is even =
    let whole = page_size_in_qwords size is in
    let bounds = page_size_bounds size is in
    let stays = qwords_stay x size is even in
    let below : x % size < size = omega (arith, bounds) in
    omega arith

-- ---- a walk over the list

-- a transfer with more than two data pages whose PRP2 has no fault has a list
pub is_list : (t : PrpTransfer) → 2 < data_pages t → IsPageSize t.page_size → data_pages t ≤ 257
    → entry_fault t.page_size (length t.bytes) 8 t.prp2 ≡ None → IsList t
is_list t many size few none = grind (arith, common_steps, from_no_fault, page_size_bounds, whole_room)

-- with a list, the fault after PRP1 is the first fault of the Qwords that are used
pub list_fault : (t : PrpTransfer) → IsList t → fault_after_prp1 t ≡ first_qword_fault t (used_of t (data_pages t))
list_fault t list = grind (arith, common_steps, nat_tests, fault_of_list)

-- a fault at the Qword of data page j, or before it, is the fault after PRP1
pub fault_found : (t : PrpTransfer) (e : PrpError) (j m : ℕ) → IsList t → j < data_pages t → m ≤ used_of t (j + 1)
    → first_qword_fault t m ≡ Some e
    → fault_after_prp1 t ≡ Some e
fault_found t e j m list below most found =
    list_fault t list ∙ fault_stays t e m (used_of t (data_pages t)) (grind (arith, nat_tests)) found

-- a walk of a list begins before data page 1, at PRP2
pub comes_first : (t : PrpTransfer) → IsList t → Comes t 1 t.prp2
comes_first t list = record { later = omega arith; here = grind (arith, nat_tests); none = grind (arith, nat_tests) }

-- with more than two data pages, the address of each but the first is in the Qword that names it
pub base_by_list : (t : PrpTransfer) (j : ℕ) → 2 < data_pages t → 0 < j
    → page_base t j ≡ qword t.bytes (qword_place t (naming_qword t j))
unfolding page_base
base_by_list t zero many later = absurd (omega arith)
base_by_list t (suc j) many later = rw (lt-ltb 2 (data_pages t) many)

-- the Qword at which a walk has arrived names data page j, if no Qword before it has a fault
turn : (t : PrpTransfer) (j at : ℕ) → IsList t → 0 < j
    → list_place (room t) t.prp2 (second_page t) (naming_number (room t) (data_pages t) j) ≡ at
    → first_qword_fault t (naming_number (room t) (data_pages t) j) ≡ None → cursor_of t (j + 1) ≡ at + 8
    → at + 8 ≤ length t.bytes → ListTurn t j at
unfolding qword_fault qword_place naming_qword
turn t j at list later place none next inside = grind (arith, common_steps, nat_tests, next_fault, base_by_list)

-- a page of the memory has room for all Qwords of a list's second page
in_page : (t : PrpTransfer) (entry n : ℕ) → IsList t → n < data_pages t
    → entry_fault t.page_size (length t.bytes) t.page_size entry ≡ None
    → entry + 8 * n + 8 ≤ length t.bytes
in_page t entry n list below none = grind (arith, common_steps, from_no_fault, page_size_bounds)

-- in the second page of a list, the Qword of each data page lies in the memory
second_inside : (t : PrpTransfer) (j at : ℕ) → IsList t → Comes t j at → j < data_pages t → room t < j
    → room t + 1 < data_pages t
    → second_page t + 8 * (j - room t) + 8 ≤ length t.bytes
unfolding qword_fault qword_place
second_inside t j at list comes below later more =
    let none : first_qword_fault t j ≡ None = grind (arith, nat_tests) in
    in_page t (second_page t) (j - room t) list (omega arith)
    (rw (lt-ltb (room t - 1) (room t) (omega (arith, list.some))) at
    (each_none t j none (room t - 1) (omega (arith, list.some))))

-- the Qword at which a walk has arrived lies in the memory
pub next_inside : (t : PrpTransfer) (j at : ℕ) → IsList t → Comes t j at → j < data_pages t → at + 8 ≤ length t.bytes
next_inside t j at list comes below = grind (arith, nat_tests, second_inside t j at list comes below)

-- the Qword at which a walk has arrived names data page j, unless it is the last one in the first of two list pages
pub turn_here : (t : PrpTransfer) (j at : ℕ) → IsList t → Comes t j at → j < data_pages t
    → (j ≡ room t → data_pages t ≤ room t + 1) → ListTurn t j at
turn_here t j at list comes below h =
    turn t j at list comes.later (grind (arith, nat_tests)) (grind (arith, nat_tests)) (grind (arith, nat_tests))
    (next_inside t j at list comes below)

-- the last Qword of the list's first page holds the address of its second one
pub record Chain (t : PrpTransfer) (j at : ℕ) : Type 0 where
  pub fault : first_qword_fault t j ≡ entry_fault t.page_size (length t.bytes) t.page_size (qword t.bytes at)
  pub is : qword t.bytes at ≡ second_page t

-- the Qword at which a walk has arrived holds the address of the second list page, if it is the last one of the first
pub chain : (t : PrpTransfer) (j at : ℕ) → Comes t j at → j ≡ room t → room t + 1 < data_pages t → Chain t j at
unfolding qword_fault qword_place
chain t j at comes last more = grind (arith, nat_tests)

-- if that address has no fault, the first Qword of the second list page names data page j
pub turn_behind : (t : PrpTransfer) (j at entry : ℕ) → IsList t → Comes t j at → j ≡ room t → room t + 1 < data_pages t
    → entry ≡ qword t.bytes at → entry_fault t.page_size (length t.bytes) t.page_size (qword t.bytes at) ≡ None
    → ListTurn t j entry
turn_behind t j at entry list comes last more is none =
    let link = chain t j at comes last more in
    turn t j entry list comes.later (grind (arith, nat_tests)) (grind (arith, nat_tests)) (grind (arith, nat_tests))
    (omega (arith, is, in_page t (qword t.bytes at) 0 list (omega arith) none))

pub ruleset list_steps = (fault_of_list, list_fault, spans)

pub ruleset rooms = (whole_room, page_size_bounds)
