-- What the five page sizes have in common.
use Rattle.std.proofs.Common.{◌≡◌, ◌≢◌, ◌∙◌, ◌⊎◌, ℕ, ◌+◌, ◌*◌, ◌/◌, ◌%◌, ◌^◌, ◌<◌, ◌≤◌, ◌==◌, ◌&&◌, IsTrue, nat_lt}
use Rattle.std.proofs.Common.{add-zero, ap, arith, inl, inr, sym}
use Rattle.std.proofs.Math.Nat.{mul-le-mul_right}
use Rattle.std.proofs.lemmas.Bool.{and_parts, cases_lt, eqb-true, ltb-true}
use Rattle.std.proofs.lemmas.Nat.{div-add-mod'}
use Rattle.nv_host.specs.Pages.{IsPageSize, are_pages, is_page_size}

-- a page has from 4,096 to 65,536 bytes
pub page_size_bounds : (size : ℕ) → IsPageSize size → (4096 ≤ size) × (size ≤ 65536)
unfolding IsPageSize
page_size_bounds size h = grind (arith, h)

-- a page has a whole number of Qwords
pub page_size_in_qwords : (size : ℕ) → IsPageSize size → size ≡ 8 * (size / 8)
unfolding IsPageSize
page_size_in_qwords size h = grind (arith, h)

-- a memory of whole pages has a valid page size, and as many bytes as its pages
pub pages_fill : (page_size size : ℕ) → IsTrue (are_pages page_size size)
    → (4096 ≤ page_size) × IsTrue (is_page_size page_size) × (size / page_size * page_size ≡ size)
    × (size / page_size < 2 ^ 32)
unfolding IsPageSize
pages_fill page_size size h =
    let most = and_parts (is_page_size page_size && (size % page_size == 0)) (nat_lt (size / page_size) (2 ^ 32)) h in
    let whole = and_parts (is_page_size page_size) (size % page_size == 0) most.0 in
    let none = eqb-true (size % page_size) 0 whole.1 in (
      (page_size_bounds page_size whole.0).0,
      whole.0,
      sym (add-zero _) ∙ ap (λ r. size / page_size * page_size + r) (sym none) ∙ div-add-mod' size page_size,
      ltb-true (size / page_size) (2 ^ 32) most.1,
    )

-- different pages have no byte in common
pub pages_apart : (size p q : ℕ) → p ≢ q → (p * size + size ≤ q * size) ⊎ (q * size + size ≤ p * size)
pages_apart size p q differ =
    elim (cases_lt p q) [
      | inl less ↦ inl (omega (arith, mul-le-mul_right size less))
      | inr more ↦ let after : q + 1 ≤ p = omega (arith, differ) in inr (omega (arith, mul-le-mul_right size after))
    ]
