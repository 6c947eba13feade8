-- Transfers whose entries were built for a buffer.
use Rattle.std.proofs.Common.{◌≡◌, ◌∙◌, ◌⊎◌, ℕ, ◌+◌, ◌-◌, ◌*◌, ◌/◌, ◌%◌, ◌<◌, ◌≤◌, List, None, ap, arith, get_or, inl}
use Rattle.std.proofs.Common.{inr, length, refl, subst}
use Rattle.nv_host.specs.Bytes.{bytes_at}
use Rattle.nv_host.proofs.BytesLaws.{bytes_at-bytes_at}
use Rattle.nv_prp.specs.Buffer.{IsBuffer, IsFor, IsListPlace, KeepsList, buffer_place}
use Rattle.nv_prp.specs.Transfer.{entry_fault, naming_qword, page_base, place_of, prp2_fault, qword, qword_fault}
use Rattle.nv_prp.specs.Transfer.{qword_place, qwords}
use Rattle.nv_prp.proofs.Words.{cases_lt, cases_order, common_steps, data_pages, div_below, HasPage, IsPageSize}
use Rattle.nv_prp.proofs.Words.{list_qwords, lt-ltb, mod-mul-add, NamesPages, naming_number, nat_tests, offset}
use Rattle.nv_prp.proofs.Words.{page_size_bounds, page_size_in_qwords, PrpTransfer, room}
use Rattle.nv_prp.proofs.FaultLaws.{multiple_stays, no_fault_at, no_fault_of_page}
use Rattle.nv_prp.proofs.ListLaws.{base_by_list, whole_room}
use Rattle.nv_prp.proofs.PageLaws.{base_of_two, pages_span}
use Rattle.nv_prp.proofs.WriteLaws.{Lies, chain_within, list_even, place_within}

-- what PRP1 determines of the entries for a buffer
pub record Begins (t : PrpTransfer) (pages : List ℕ) (start : ℕ) : Type 0 where
  pub size : IsPageSize t.page_size
  pub buffer : IsBuffer t.bytes t.page_size pages start t.len
  pub prp1 : t.prp1 ≡ get_or pages 0 0 * t.page_size + start

-- a Qword that is used holds the address of the second list page, or names a data page
qword_cases : (space pages n : ℕ) → 0 < space → n < list_qwords space pages
    → ((space < pages - 1) × (n + 1 ≡ space)) ⊎ ((j : ℕ) × (0 < j) × (j < pages) × (naming_number space pages j ≡ n))
qword_cases space pages n some used =
    elim (cases_lt space (pages - 1)) [
      | inl chained ↦ elim (cases_order (n + 1) space) [
        | inl last ↦ inl (chained, last)
        | inr (inl near) ↦ inr (n + 1, omega arith, omega arith, grind (arith, nat_tests))
        | inr (inr far) ↦ inr (n, omega arith, grind (arith, nat_tests), grind (arith, nat_tests))
      ]
      | inr single ↦ inr (n + 1, omega arith, grind (arith, nat_tests), grind (arith, nat_tests))
    ]

-- entries of which PRP1 is for the buffer
module _ (t : PrpTransfer) (pages : List ℕ) (start : ℕ) (begins : Begins t pages start) where
  -- the first byte of the transfer has the buffer's offset in its page
  begins_at : offset t ≡ start
  begins_at =
      ap (λ n. n % t.page_size) begins.prp1 ∙ mod-mul-add (get_or pages 0 0) t.page_size start begins.buffer.below

  -- a buffer that holds the data has as many pages as the data needs
  pub pages_enough : data_pages t ≤ length pages
  pages_enough =
      let bounds = page_size_bounds t.page_size begins.size in
      let span = pages_span t (omega (arith, bounds)) in
      grind (arith, begins_at, begins.buffer.enough)

  -- each page of the buffer that the data needs is a page of the memory
  page_has : (j : ℕ) → j < data_pages t → HasPage t.bytes t.page_size (get_or pages j 0)
  page_has j below = begins.buffer.inside j 0 (omega (arith, pages_enough))

  -- the entries are for the buffer if PRP2 and the list have no fault and the later data pages are the buffer's
  is_for : 0 < data_pages t → prp2_fault t ≡ None → ((n : ℕ) → n < qwords t → qword_fault t n ≡ None)
      → ((j : ℕ) → 0 < j → j < data_pages t → page_base t j ≡ get_or pages j 0 * t.page_size) → IsFor t pages start
  unfolding place_of buffer_place page_base
  is_for more prp2 list bases =
      let size = t.page_size in
      let at = begins_at in
      let some : 0 < size = omega (arith, page_size_bounds size begins.size) in
      let whole : size ≡ 4 * (size / 4) = omega (arith, page_size_in_qwords size begins.size) in
      let first : page_base t 0 ≡ get_or pages 0 0 * size = omega (arith, begins.prp1, at) in
      let base : (j : ℕ) → j < data_pages t → page_base t j ≡ get_or pages j 0 * size = λ j below. elim (cases_lt 0 j) [
        | inl later ↦ bases j later below
        | inr none ↦ let is : j ≡ 0 = omega arith in cc
      ] in
      record {
        legal = record {
          prp1 = no_fault_at t.bytes (get_or pages 0 0) size start 4 t.prp1 begins.prp1 begins.buffer.below
              (page_has 0 more)
              (ap (λ n. n % 4) begins.prp1 ∙ multiple_stays (get_or pages 0 0) size start 4 whole
              ∙ begins.buffer.aligned);
          prp2 = prp2;
          list = list;
        };
        places = λ i below.
            let page : (offset t + i) / size < data_pages t =
            div_below (offset t + i) size (data_pages t) some (omega (arith, (pages_span t some).0)) in
            cc (base ((offset t + i) / size) page, at);
      }

  -- with one data page or two, the entries are for the buffer if PRP2 is the address of the second page
  pub few_pages : 0 < data_pages t → data_pages t ≤ 2 → (data_pages t ≡ 2 → t.prp2 ≡ get_or pages 1 0 * t.page_size)
      → IsFor t pages start
  unfolding prp2_fault qwords
  few_pages more few second =
      let some : 0 < t.page_size = omega (arith, page_size_bounds t.page_size begins.size) in
      let two_fits : data_pages t ≡ 2 → entry_fault t.page_size (length t.bytes) t.page_size t.prp2 ≡ None = λ two.
      no_fault_of_page t.bytes (get_or pages 1 0) t.page_size t.prp2 (second two) some (page_has 1 (omega arith)) in
      is_for more (grind (arith, nat_tests)) (λ n used. absurd (grind (arith, nat_tests)))
      (λ j later below. let is : j ≡ 1 = omega arith in grind (arith, base_of_two t))

  -- with more, the entries are for the buffer if PRP2 is the address of a list of its pages
  pub many_pages : (first second at : ℕ) → 2 < data_pages t → t.prp2 ≡ first * t.page_size + at
      → IsListPlace t.bytes t.page_size first second at
      → NamesPages t.bytes t.page_size (room t) t.prp2 (second * t.page_size) pages (data_pages t) → IsFor t pages start
  unfolding qword_fault prp2_fault qwords naming_qword qword_place
  many_pages first second at many prp2 place names =
      let size = t.page_size in
      let bounds = page_size_bounds size begins.size in
      let some : 0 < size = omega arith in
      let even : t.prp2 % 8 ≡ 0 = ap (λ n. n % 8) prp2 ∙ list_even t.bytes size first second at begins.size place in
      let whole = whole_room t.prp2 size begins.size even in
      let space : 0 < room t = omega arith in
      let all : qwords t ≡ list_qwords (room t) (data_pages t) = rw (lt-ltb 2 (data_pages t) many) refl in
      let holds : (j : ℕ) → 0 < j → j < data_pages t
      → qword t.bytes (qword_place t (naming_qword t j)) ≡ get_or pages j 0 * size = λ j later below.
      grind (arith, nat_tests, names.each j later below, names.chain) in
      is_for (omega arith)
      (rw (lt-ltb 2 (data_pages t) many)
      (no_fault_at t.bytes first size at 8 t.prp2 prp2 place.below place.has_first even))
      (λ n below. elim (qword_cases (room t) (data_pages t) n space (subst (λ m. n < m) all below)) [
        | inl chained ↦ no_fault_of_page t.bytes second size _
            (grind (arith, nat_tests, names.chain)) some place.has_second
        | inr (j, later, within, is) ↦ no_fault_of_page t.bytes (get_or pages j 0) size _
            (grind (arith, holds j later within)) some (page_has j within)
      ])
      (λ j later below. base_by_list t j many later ∙ holds j later below)

-- ---- over a later memory

-- a memory that doesn't change keeps a transfer's list
pub keeps_itself : (t : PrpTransfer) (first second : ℕ) → KeepsList t first second t.bytes
keeps_itself t first second = record { len = refl; in_first = λ _. refl; in_second = λ _. refl }

-- a Qword within bytes that don't change doesn't change
qword_of_page : (old new : List ℕ) (q p addr : ℕ) → bytes_at new q p ≡ bytes_at old q p → q ≤ addr → addr + 8 ≤ q + p
    → qword new addr ≡ qword old addr
unfolding qword
qword_of_page old new q p addr same low high =
    let at : q + (addr - q) ≡ addr = omega arith in
    cc (bytes_at-bytes_at new q p (addr - q) 8 (omega arith), bytes_at-bytes_at old q p (addr - q) 8 (omega arith))

-- a list whose pages don't change holds the addresses of the same data pages
pub names_kept : (t : PrpTransfer) (pages : List ℕ) (first second : ℕ) (later : List ℕ) → 2 < data_pages t
    → data_pages t ≤ 257
    → Lies t.page_size (room t) t.prp2 (first * t.page_size) (second * t.page_size) → KeepsList t first second later
    → NamesPages t.bytes t.page_size (room t) t.prp2 (second * t.page_size) pages (data_pages t)
    → NamesPages later t.page_size (room t) t.prp2 (second * t.page_size) pages (data_pages t)
names_kept t pages first second later many few lies keeps names =
    grind (arith, common_steps, qword_of_page, chain_within, place_within)
