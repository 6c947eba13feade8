-- The fault of a single entry, and the first fault of a transfer.
use Rattle.std.proofs.Common.{◌==◌, if◌then◌else◌, nat_le, ◌≡◌, ◌∙◌, ℕ, ◌+◌, ◌-◌, ◌*◌, ◌/◌, ◌%◌, ◌<◌, ◌≤◌, List, None}
use Rattle.std.proofs.Common.{Some, ap, arith, length, zero, suc, inl, inr, refl}
use Rattle.nv_prp.specs.Transfer.{entry_fault, first_fault, prp2_fault, qword_fault, qwords}
use Rattle.std.specs.Option.{option_or}
use Rattle.nv_prp.specs.declared.error.PrpError.TheVariants.{Offset, Outside}
use Rattle.nv_prp.proofs.Words.{cases_lt, common_steps, data_pages, fault_after_prp1, first_qword_fault, HasPage}
use Rattle.nv_prp.proofs.Words.{IsLegal, IsPageSize, list_qwords, lt-ltb, mod-mul-add, mul-add-mod_self_left}
use Rattle.nv_prp.proofs.Words.{mul-mod_left, nat_tests, page_size_bounds, prp1_fault, PrpError, PrpTransfer, room}

-- an aligned entry that lies in a memory of whole pages has no fault
pub entry_inside : (pages page_size size alignment entry : ℕ) → pages * page_size ≡ size → IsPageSize page_size
    → entry < size
    → entry % alignment ≡ 0 → entry_fault page_size size alignment entry ≡ None
unfolding entry_fault
entry_inside pages page_size size alignment entry whole is inside even =
    let bounds = page_size_bounds page_size is in
    let page : entry - entry % page_size + page_size ≤ size = grind (arith, nat_tests) in
    grind (arith, nat_tests)

-- an entry that isn't a multiple of its alignment has the fault Offset, and one whose page is outside the memory
-- Outside
pub fault_is : (page_size size alignment entry : ℕ) → entry_fault page_size size alignment entry
    ≡ (if entry % alignment == 0
    then (if nat_le (entry - entry % page_size + page_size) size then None else Some Outside) else Some Offset)
unfolding entry_fault
fault_is page_size size alignment entry = refl

pub ruleset entries = (entry_inside, fault_is, page_size_bounds)

-- an entry without a fault is a multiple of its alignment, and its page lies in the memory
pub from_no_fault : (page_size size alignment entry : ℕ) → entry_fault page_size size alignment entry ≡ None
    → (entry % alignment ≡ 0) × (entry - entry % page_size + page_size ≤ size)
unfolding entry_fault
from_no_fault page_size size alignment entry none = (grind (arith, nat_tests), grind (arith, nat_tests))

-- ---- entries that are addresses in a page of the memory

-- if the page size is a multiple of k, an address is a multiple of k if and only if its offset in the page is
pub multiple_stays : (page size x k : ℕ) → size ≡ k * (size / k) → (page * size + x) % k ≡ x % k
multiple_stays page size x k whole =
    let q = size / k in
    let turned : page * (k * q) ≡ k * (page * q) = grind arith in
    ap (λ n. (n + x) % k) (ap (λ p. page * p) whole ∙ turned) ∙ mul-add-mod_self_left k (page * q) x

-- an aligned address in a page of the memory has no fault
pub no_fault_at : (bytes : List ℕ) (page size x alignment entry : ℕ) → entry ≡ page * size + x → x < size
    → HasPage bytes size page
    → entry % alignment ≡ 0 → entry_fault size (length bytes) alignment entry ≡ None
unfolding entry_fault
no_fault_at bytes page size x alignment entry is below has even =
    let rest : entry % size ≡ x = ap (λ n. n % size) is ∙ mod-mul-add page size x below in
    grind (arith, nat_tests)

-- the address of a page of the memory has no fault
pub no_fault_of_page : (bytes : List ℕ) (page size entry : ℕ) → entry ≡ page * size → 0 < size → HasPage bytes size page
    → entry_fault size (length bytes) size entry ≡ None
no_fault_of_page bytes page size entry is some has =
    no_fault_at bytes page size 0 size entry (omega arith) some has (ap (λ n. n % size) is ∙ mul-mod_left page size)

-- ---- a list's Qwords

-- if the first n Qwords have no first fault, none of them has a fault
pub each_none : (t : PrpTransfer) (n : ℕ) → first_qword_fault t n ≡ None → (k : ℕ) → k < n → qword_fault t k ≡ None
each_none t zero none k below = absurd (omega arith)
each_none t (suc n) none k below =
    elim (cases_lt k n) [
      | inl before ↦ each_none t n (grind (arith, nat_tests)) k before
      | inr last ↦ let is : k ≡ n = omega arith in grind (arith, nat_tests)
    ]

-- if none of the first n Qwords has a fault, there is no first fault
no_qword_fault : (t : PrpTransfer) (n : ℕ) → ((k : ℕ) → k < n → qword_fault t k ≡ None) → first_qword_fault t n ≡ None
no_qword_fault t zero none = refl
no_qword_fault t (suc n) none =
    ap (λ o. option_or o (qword_fault t n)) (no_qword_fault t n (λ k h. none k (omega arith))) ∙ none n (omega arith)

-- the first fault of one Qword more is its own, if the Qwords before it have none
pub next_fault : (t : PrpTransfer) (n m : ℕ) → m ≡ n + 1 → first_qword_fault t n ≡ None
    → first_qword_fault t m ≡ qword_fault t n
next_fault t n m e none = grind (arith, nat_tests)

-- the first fault of some Qwords is the first fault of more Qwords
pub fault_stays : (t : PrpTransfer) (e : PrpError) (m n : ℕ) → m ≤ n → first_qword_fault t m ≡ Some e
    → first_qword_fault t n ≡ Some e
fault_stays t e m zero le h = let is : 0 ≡ m = omega arith in ap (λ k. first_qword_fault t k) is ∙ h
fault_stays t e m (suc n) le h =
    elim (cases_lt n m) [
      | inl all ↦ let is : suc n ≡ m = omega arith in ap (λ k. first_qword_fault t k) is ∙ h
      | inr more ↦ ap (λ o. option_or o (qword_fault t n)) (fault_stays t e m n more h)
    ]

-- ---- a transfer

-- a transfer without a first fault is legal
pub legal_from_none : (t : PrpTransfer) → first_fault t ≡ None → IsLegal t
unfolding first_fault
legal_from_none t none = grind (arith, common_steps, nat_tests, each_none)

-- a legal transfer has no first fault
pub none_from_legal : (t : PrpTransfer) → IsLegal t → first_fault t ≡ None
unfolding first_fault
none_from_legal t legal = rw (legal.prp1, legal.prp2) (no_qword_fault t (qwords t) legal.list)

-- the first fault of a transfer is the fault of PRP1, or else the first one after it
pub first_is : (t : PrpTransfer) → first_fault t ≡ option_or (prp1_fault t) (fault_after_prp1 t)
unfolding first_fault
first_is t = refl

-- one data page, two, and more

-- with one data page, there is no fault after PRP1
pub fault_of_one : (t : PrpTransfer) → data_pages t ≡ 1 → fault_after_prp1 t ≡ None
unfolding prp2_fault qwords
fault_of_one t one = grind (arith, nat_tests)

-- with two data pages, the fault after PRP1 is PRP2's as the address of a page
pub fault_of_two : (t : PrpTransfer) → data_pages t ≡ 2
    → fault_after_prp1 t ≡ entry_fault t.page_size (length t.bytes) t.page_size t.prp2
unfolding prp2_fault qwords
fault_of_two t two = grind (arith, nat_tests)

-- with more data pages, the fault after PRP1 is PRP2's as the address of a list, or else the first of its Qwords
pub fault_of_list : (t : PrpTransfer) → 2 < data_pages t → fault_after_prp1 t
    ≡ option_or (entry_fault t.page_size (length t.bytes) 8 t.prp2)
    (first_qword_fault t (list_qwords (room t) (data_pages t)))
unfolding prp2_fault qwords
fault_of_list t many = rw (lt-ltb 2 (data_pages t) many)

pub ruleset faults = (first_is, fault_of_one, fault_of_two, fault_of_list)
