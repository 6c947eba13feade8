-- Qwords that are written, and lists of them.
use Rattle.std.proofs.Common.{◌≡◌, ◌≢◌, ◌∙◌, ◌⊎◌, ℕ, ◌+◌, ◌-◌, ◌*◌, ◌/◌, ◌%◌, ◌<◌, ◌≤◌, ◌^◌, List, ap, arith, get_or}
use Rattle.std.proofs.Common.{inl, inr, length, refl, subst, sym}
use Rattle.nv_host.specs.Bytes.{with_bytes}
use Rattle.nv_host.proofs.BytesLaws.{bytes_at-with_after, bytes_at-with_before, bytes_at-with_same}
use Rattle.nv_prp.specs.Buffer.{IsApart, IsListPlace, KeepsOutside, KeepsOutsideList}
use Rattle.nv_prp.specs.Transfer.{qword}
use Rattle.nv_prp.proofs.Words.{cases_lt, ChangesOnly, from_le_bytes, from_le_bytes-to_le_bytes_8, IsPageSize}
use Rattle.nv_prp.proofs.Words.{list_place, list_qwords, mod-mul-add, NamesPages, naming_number, nat_tests}
use Rattle.nv_prp.proofs.Words.{page_size_bounds, page_size_in_qwords, pages_apart, to_le_bytes, w64}
use Rattle.nv_prp.proofs.FaultLaws.{multiple_stays}
use Rattle.nv_prp.proofs.ListLaws.{whole_room}

-- ---- one Qword

-- a Qword that was written is read back
pub stored_value : (bytes : List ℕ) (addr value : ℕ) → addr + 8 ≤ length bytes → value < 2 ^ 64
    → qword (with_bytes bytes addr (to_le_bytes w64 value)) addr ≡ value
unfolding qword
stored_value bytes addr value inside fits =
    ap (λ l. from_le_bytes w64 l) (bytes_at-with_same bytes addr 8 (to_le_bytes w64 value) inside refl)
    ∙ from_le_bytes-to_le_bytes_8 value fits

pub ruleset stores = (stored_value, bytes_at-with_before, bytes_at-with_after)

-- a Qword apart from the bytes that change doesn't change
qword_kept : (addr n other : ℕ) (old new : List ℕ) → ChangesOnly addr n old new → IsApart addr n other 8
    → qword new other ≡ qword old other
unfolding qword
qword_kept addr n other old new others apart = ap (λ l. from_le_bytes w64 l) (others other 8 apart)

-- ---- the places of a list's Qwords

-- a list in two pages, by their addresses
pub record Lies (size space start first second : ℕ) : Type 0 where
  pub low : first ≤ start
  pub whole : start + 8 * space ≡ first + size
  pub some : 0 < space
  pub large : 4096 ≤ size
  pub apart : (first + size ≤ second) ⊎ (second + size ≤ first)

-- a list's address is a multiple of 8
pub list_even : (bytes : List ℕ) (size first second offset : ℕ) → IsPageSize size
    → IsListPlace bytes size first second offset
    → (first * size + offset) % 8 ≡ 0
list_even bytes size first second offset is place = multiple_stays first size offset 8 (page_size_in_qwords size is)
    ∙ place.aligned

-- a list at a place for lists lies in two pages, from its address to the end of the first page and in the second
pub lies_at : (bytes : List ℕ) (size first second offset start space : ℕ) → IsPageSize size
    → IsListPlace bytes size first second offset
    → first ≢ second → start ≡ first * size + offset → space ≡ (size - start % size) / 8
    → Lies size space start (first * size) (second * size)
lies_at bytes size first second offset start space is place other at room =
    let rest : start % size ≡ offset = ap (λ n. n % size) at ∙ mod-mul-add first size offset place.below in
    let bounds = page_size_bounds size is in
    let ends = whole_room start size is (ap (λ n. n % 8) at ∙ list_even bytes size first second offset is place) in
    record {
      low = omega arith;
      whole = omega arith;
      some = omega arith;
      large = bounds.0;
      apart = pages_apart size first second other;
    }

-- n bytes lie in one of the pages
abbrev pub IsWithin : ℕ → ℕ → ℕ → ℕ → ℕ → Type 0
IsWithin size first second addr n =
    ((first ≤ addr) × (addr + n ≤ first + size)) ⊎ ((second ≤ addr) × (addr + n ≤ second + size))

-- the Qword that holds the address of data page j
abbrev pub naming_place : ℕ → ℕ → ℕ → ℕ → ℕ → ℕ
naming_place space start second count j = list_place space start second (naming_number space count j)

-- the Qword that names a data page lies in one of the two pages
pub place_within : (size space start first second count j behind at : ℕ) → Lies size space start first second
    → count ≤ 257
    → 0 < j → j < count → behind ≡ second → at ≡ naming_place space start behind count j
    → IsWithin size first second at 8
place_within size space start first second count j behind at lies few later below same is = grind (arith, nat_tests)

-- the last Qword of the first page is in one of the pages too
pub chain_within : (size space start first second at : ℕ) → Lies size space start first second
    → at ≡ start + 8 * (space - 1)
    → IsWithin size first second at 8
chain_within size space start first second at lies is = inl (omega arith, omega arith)

-- ---- a list that is written

-- the first Qwords hold the addresses of their data pages
abbrev pub HasNamed : List ℕ → ℕ → ℕ → ℕ → ℕ → List ℕ → ℕ → ℕ → Type 0
HasNamed bytes size space start second pages count n = (j : ℕ) → 0 < j → j < n
    → qword bytes (naming_place space start second count j) ≡ get_or pages j 0 * size

-- if the list has the Qwords of the data pages below j, it has them up to j after the one of page j was written
pub one_named : (old new : List ℕ) (size space start first second : ℕ) (pages : List ℕ) (count j behind at : ℕ)
    → Lies size space start first second
    → count ≤ 257 → 0 < j → j < count → behind ≡ second → at ≡ naming_place space start behind count j
    → HasNamed old size space start second pages count j
    → qword new at ≡ get_or pages j 0 * size → ChangesOnly at 8 old new
    → HasNamed new size space start second pages count (j + 1)
one_named old new size space start first second pages count j _ at lies few later below next is_at named here others =
    λ k after before.
    let is : at ≡ naming_place space start second count j = cc in
    elim (cases_lt k j) [
      | inl less ↦ qword_kept at 8 (naming_place space start second count k) old new others (grind (arith, nat_tests))
          ∙ named k after less
      | inr last ↦ let same : k ≡ j = omega arith in cc
    ]

-- if all Qwords of the data pages are there, the list names its pages after the address of its second page was written
pub chain_names : (old new : List ℕ) (size space start first second : ℕ) (pages : List ℕ) (count n at : ℕ)
    → Lies size space start first second
    → count ≤ 257 → space + 1 < count → at ≡ start + 8 * (space - 1) → count ≤ n
    → HasNamed old size space start second pages count n
    → qword new at ≡ second → ChangesOnly at 8 old new → NamesPages new size space start second pages count
chain_names old new size space start first second pages count n at lies few chained is all named here others = record {
  chain = λ _. ap (λ a. qword new a) (sym is) ∙ here;
  each = λ j later below.
      qword_kept at 8 (naming_place space start second count j) old new others (grind (arith, nat_tests))
      ∙ named j later (omega arith);
}

-- bytes outside a list don't change if only those of one of its Qwords change
pub one_kept : (space start second count q at : ℕ) (all old new : List ℕ) → q < list_qwords space count
    → at ≡ list_place space start second q → KeepsOutsideList space start second count all old
    → ChangesOnly at 8 old new → KeepsOutsideList space start second count all new
one_kept space start second count q at all old new used is kept others = λ from n apart.
    others from n (subst (λ a. IsApart a 8 from n) (sym is) (apart q used)) ∙ kept from n apart

-- bytes outside the list don't change when the Qword of a data page is written
pub naming_kept : (space start second count j behind at : ℕ) (all old new : List ℕ) → 0 < j → j < count
    → behind ≡ second → at ≡ naming_place space start behind count j
    → KeepsOutsideList space start second count all old → ChangesOnly at 8 old new
    → KeepsOutsideList space start second count all new
naming_kept space start second count j behind at all old new later below same is =
    one_kept space start second count (naming_number space count j) at all old new (grind (arith, nat_tests)) cc

-- bytes outside the list don't change when the address of its second page is written
pub chain_kept : (space start second count at : ℕ) (all old new : List ℕ) → 0 < space → space + 1 < count
    → at ≡ start + 8 * (space - 1) → KeepsOutsideList space start second count all old → ChangesOnly at 8 old new
    → KeepsOutsideList space start second count all new
chain_kept space start second count at all old new some more is =
    one_kept space start second count (space - 1) at all old new (grind (arith, nat_tests)) (grind (arith, nat_tests))

-- bytes outside the pages of a list are outside the list
pub pages_kept : (size space start first second count : ℕ) (old new : List ℕ)
    → Lies size space start (first * size) (second * size) → count ≤ 257
    → KeepsOutsideList space start (second * size) count old new → KeepsOutside size first second old new
pages_kept size space start first second count old new lies few kept = λ from n apart behind.
    kept from n (λ q used. grind (arith, nat_tests))
