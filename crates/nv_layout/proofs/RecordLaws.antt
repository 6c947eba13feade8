-- Entries of the queues and lists are read back if their fields fit, and how many bytes each has.
use Rattle.std.proofs.Common.{◌≡◌, ◌≢◌, ◌∙◌, ℕ, Bool, true, ◌==◌, ◌+◌, ◌^◌, ◌<◌, ◌≤◌, nat_le, rules}
use Rattle.std.proofs.Common.{ap, refl, arith, List, length}
use Rattle.std.specs.List.{AllByRecursion, before_first}
use Rattle.nv_layout.specs.Cqe.{CqeReadsBack, bytes_of_cqe, cqe_of_bytes, cqe_parts}
use Rattle.nv_layout.specs.CtrlList.{CtrlListReadsBack, bytes_of_ctrl_list, ctrl_list_of_bytes}
use Rattle.nv_layout.specs.CtrlList.{ctrl_list_parts}
use Rattle.nv_layout.specs.Limits.{most_cntlids}
use Rattle.nv_layout.specs.NsList.{bytes_of_ns_list, is_zero, ns_list_of_bytes, ns_list_parts}
use Rattle.nv_layout.specs.Limits.{most_nsids}
use Rattle.nv_layout.specs.inner.Parts.{Fits, is_table}
use Rattle.nv_layout.specs.Bits.{at_bits, bit, bits}
use Rattle.nv_layout.specs.Sqe.{SqeReadsBack, bytes_of_sqe, sqe_of_bytes, sqe_parts}
use Rattle.nv_layout.specs.Status.{StatusReadsBack, number_of_status, status_of_number}
use Rattle.nv_layout.specs.declared.cqe.Cqe.{Cqe}
use Rattle.nv_layout.specs.declared.sqe.Sqe.{Sqe}
use Rattle.nv_layout.specs.declared.cqe.Status.{Status}
use Rattle.nv_layout.proofs.NsListLaws.{before_first-padded, length-padded, padded_fits}
use Rattle.nv_layout.proofs.TableLaws.{length-laid_out, table_back}

-- ---- flags

-- the bit of a flag is 1 if and only if the flag is set
pub flag_back : (flag : Bool) → (bit flag == 1) ≡ flag
flag_back flag = search rules

-- the bit of a flag is below 2
pub bit_below : (flag : Bool) → bit flag < 2
bit_below flag = search rules

-- ---- the status field

-- the number of a status has 15 bits, whatever its fields are
pub number_of_status_below : (s : Status) → number_of_status s < 2 ^ 15
unfolding number_of_status
number_of_status_below s = omega arith

-- a status whose fields fit is read back from its number
pub status_back : StatusReadsBack
unfolding number_of_status status_of_number
status_back s fits = search rules

-- ---- submission queue entries

-- a submission queue entry has 64 bytes
pub length-bytes_of_sqe : (r : Sqe) → length (bytes_of_sqe r) ≡ 64
unfolding bytes_of_sqe
length-bytes_of_sqe r = length-laid_out 64 (sqe_parts r) refl assumption

-- a number made of the four fields of command dword 0 has four bytes, and its bits are the fields
dword0_bits : (o f p c : ℕ) → o < 2 ^ 8 → f < 2 ^ 2 → p < 2 ^ 2 → c < 2 ^ 16
    → let n = at_bits 0 8 o + at_bits 8 2 f + at_bits 14 2 p + at_bits 16 16 c in
    (n < 256 ^ 4) × (bits 0 8 n ≡ o) × (bits 8 2 n ≡ f) × (bits 14 2 n ≡ p) × (bits 16 16 n ≡ c)
dword0_bits o f p c ho hf hp hc = (omega arith, omega arith, omega arith, omega arith, omega arith)

-- a submission queue entry whose fields fit is read back from its bytes
pub sqe_back : SqeReadsBack
unfolding bytes_of_sqe sqe_of_bytes
sqe_back r fits =
    let (small, opcode, fuse, psdt, cid) =
    dword0_bits r.opcode r.fuse r.psdt r.cid fits.opcode fits.fuse fits.psdt fits.cid in
    let fields = table_back 64 (sqe_parts r) refl assumption in
    grind (arith, fields, opcode, fuse, psdt, cid)

-- ---- completion queue entries

-- a completion queue entry has 16 bytes
pub length-bytes_of_cqe : (r : Cqe) → length (bytes_of_cqe r) ≡ 16
unfolding bytes_of_cqe
length-bytes_of_cqe r = length-laid_out 16 (cqe_parts r) refl assumption

-- a number made of the three fields of dword 3 has four bytes, and its bits are the fields
dword3_bits : (c p s : ℕ) → c < 2 ^ 16 → p < 2 → s < 2 ^ 15
    → let n = at_bits 0 16 c + at_bits 16 1 p + at_bits 17 15 s in
    (n < 256 ^ 4) × (bits 0 16 n ≡ c) × (bits 16 1 n ≡ p) × (bits 17 15 n ≡ s)
dword3_bits c p s hc hp hs = (omega arith, omega arith, omega arith, omega arith)

-- a completion queue entry whose fields fit is read back from its bytes
pub cqe_back : CqeReadsBack
unfolding bytes_of_cqe cqe_of_bytes
cqe_back r fits =
    let (small, cid, phase, status) =
    dword3_bits r.cid (bit r.phase) (number_of_status r.status)
    fits.cid (bit_below r.phase) (number_of_status_below r.status) in
    let fields = table_back 16 (cqe_parts r) refl assumption in
    grind (arith, fields, cid, phase, flag_back r.phase, status, status_back r.status fits.status)

-- ---- namespace lists

-- a namespace list with at most most_nsids identifiers has 4,096 bytes
pub length-bytes_of_ns_list : (ids : List ℕ) → length ids ≤ most_nsids → length (bytes_of_ns_list ids)
    ≡ 4096
unfolding bytes_of_ns_list
length-bytes_of_ns_list ids h = search (rules, length-laid_out, length-padded)

-- a list of at most most_nsids identifiers, none of them 0, is read back from its bytes
pub ns_list_back : (ids : List ℕ) → length ids ≤ most_nsids → AllByRecursion (λ x. (x ≢ 0)
    × (x < 2 ^ 32)) ids
    → ns_list_of_bytes (bytes_of_ns_list ids) ≡ ids
unfolding bytes_of_ns_list ns_list_of_bytes
ns_list_back ids h fits =
    let all = table_back 4096 (ns_list_parts ids) refl (
      (
        length-padded most_nsids ids h,
        padded_fits most_nsids ids fits,
      ),
      tt,
    ) in
    ap (before_first is_zero) all.0 ∙ before_first-padded most_nsids ids fits

-- ---- controller lists

-- the fields of a controller list lie one after the other in 4,096 bytes, if it has at most most_cntlids identifiers
is_table_of_ids : (ids : List ℕ) → length ids ≤ most_cntlids → is_table 0 4096 (ctrl_list_parts ids) ≡ true
is_table_of_ids ids h = grind arith

-- a controller list with at most most_cntlids identifiers has 4,096 bytes
pub length-bytes_of_ctrl_list : (ids : List ℕ) → length ids ≤ most_cntlids → length (bytes_of_ctrl_list ids)
    ≡ 4096
unfolding bytes_of_ctrl_list
length-bytes_of_ctrl_list ids h = omega (arith, length-laid_out, is_table_of_ids)

-- a controller list that fits its record is read back from its bytes
pub ctrl_list_back : CtrlListReadsBack
unfolding bytes_of_ctrl_list ctrl_list_of_bytes
ctrl_list_back ids fits =
    let parts_fit : AllByRecursion Fits (ctrl_list_parts ids) =
    (omega (arith, fits.count), ((refl, fits.numbers), tt)) in
    let (count, (each, end)) =
    table_back 4096 (ctrl_list_parts ids) (is_table_of_ids ids fits.count) parts_fit in
    let room : nat_le (length ids) most_cntlids ≡ true = grind (arith, fits.count) in
    rw (count, room, each)
