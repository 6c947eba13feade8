-- The spans of a legal transfer.
use Rattle.std.proofs.Common.{None, ◌≡◌, ℕ, ◌+◌, ◌<◌, ◌≤◌, arith, inl, inr, length}
use Rattle.nv_prp.specs.Place.{LieIn}
use Rattle.nv_prp.specs.Transfer.{entry_fault, naming_qword, page_base, prp2_fault, qword_fault, qwords, span_of}
use Rattle.nv_prp.specs.Transfer.{spans_of}
use Rattle.nv_prp.proofs.Words.{cases_lt, data_pages, IsLegal, nat_tests, page_size_bounds, PrpTransfer}
use Rattle.nv_prp.proofs.PlaceLaws.{All-table}
use Rattle.nv_prp.proofs.FaultLaws.{from_no_fault, legal_from_none, none_from_legal}
use Rattle.nv_prp.proofs.ListLaws.{base_by_list}
use Rattle.nv_prp.proofs.PageLaws.{base_of_two, first_span, later_span, length_transfer_places, next_page}
use Rattle.nv_prp.proofs.PageLaws.{places_of_spans}

-- each data page except the first is a page of the memory
later_fault : (t : PrpTransfer) (j : ℕ) → IsLegal t → 0 < j → j < data_pages t
    → entry_fault t.page_size (length t.bytes) t.page_size (page_base t j) ≡ None
unfolding qword_fault prp2_fault qwords naming_qword
later_fault t j legal later below =
    grind (arith, nat_tests, base_by_list t j, base_of_two t, legal.list (naming_qword t j), legal.prp2)

-- the spans of a legal transfer lie in the memory
pub spans_lie_in : (t : PrpTransfer) → IsLegal t → 0 < t.page_size → 0 < t.len → LieIn (length t.bytes) (spans_of t)
unfolding LieIn spans_of
spans_lie_in t legal some bytes =
    All-table (λ s. s.address + s.len ≤ length t.bytes) (data_pages t) (span_of t)
    (λ j below. elim (cases_lt 0 j) [
      | inl later ↦
          let base =
          from_no_fault t.page_size (length t.bytes) t.page_size (page_base t j)
          (later_fault t j legal later below) in
          grind (arith, next_page j t.page_size, later_span t j some later below)
      | inr first ↦ grind
          (arith, first_span t some bytes, from_no_fault t.page_size (length t.bytes) 4 t.prp1 legal.prp1)
    ])

pub ruleset walks =
    (legal_from_none, none_from_legal, places_of_spans, spans_lie_in, length_transfer_places, page_size_bounds)
