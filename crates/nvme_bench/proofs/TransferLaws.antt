-- Spans and pages, one after the other.
use Rattle.std.proofs.Common.{◌≡◌, ◌∙◌, ℕ, ◌+◌, ◌<◌, ap, sym, List, [], length, take, length-append}
use Rattle.std.proofs.Common.{◌≤◌, ◌-◌, ◌≢◌, All, arith, drop, get_or, inl, inr, length-drop}
use Rattle.std.proofs.lemmas.Bool.{cases_lt}
use Rattle.std.proofs.lemmas.List.{get_or-drop, get_or_default}
use Rattle.std.proofs.lemmas.List.{flat_map_more, take_more}
use Rattle.nv_prp.specs.Place.{AreDistinct, places, span_places}
use Rattle.nv_prp.proofs.PlaceLaws.{length-span_places}
use Rattle.nv_prp.specs.declared.spans.Span.{Span}

-- the first i + 1 spans have as many bytes as the first i and span i
pub one_more_span : (spans : List Span) (i : ℕ) (d : Span) → i < length spans
    → length (places (take (i + 1) spans)) ≡ length (places (take i spans)) + (get_or spans i d).len
unfolding places
one_more_span spans i d h =
    ap (λ ss. length (places ss)) (take_more spans i d h)
    ∙ ap length (sym (flat_map_more span_places [] (take i spans) (get_or spans i d)))
    ∙ length-append (places (take i spans)) (span_places (get_or spans i d))
    ∙ ap (λ n. length (places (take i spans)) + n) (length-span_places (get_or spans i d))

-- none of the first n pages occurs again after it
pub record ApartTo (pages : List ℕ) (n : ℕ) : Type 0 where
  pub apart : (i j d : ℕ) → i < n → i < j → j < length pages → get_or pages i d ≢ get_or pages j d

-- the page at i doesn't occur again after it
abbrev pub IsApart : List ℕ → ℕ → Type 0
IsApart pages i = All (λ other. get_or pages i 0 ≢ other) (drop (i + 1) pages)

-- if a page occurs again, the pages aren't distinct
pub one_again : (pages : List ℕ) (i : ℕ) → i < length pages → ¬ IsApart pages i → ¬ AreDistinct pages
one_again pages i h again distinct =
    again (λ k d below e.
    let there : i + 1 + k < length pages = omega (arith, length-drop (i + 1) pages, below) in
    distinct i (i + 1 + k) d (omega arith) there
    (get_or_default pages i d 0 h ∙ e ∙ get_or-drop (i + 1) pages k d))

-- if the first n pages occur once and page n doesn't occur again, the first n + 1 pages occur once
pub one_more_apart : (pages : List ℕ) (n : ℕ) → n < length pages → ApartTo pages n → IsApart pages n
    → ApartTo pages (n + 1)
one_more_apart pages n h so here = record {
  apart = λ i j d below less there. elim (cases_lt i n) [
    | inl before ↦ so.apart i j d before less there
    | inr past ↦ at i j d (omega arith) (omega arith) there
  ];
} where
  at : (i j d : ℕ) → i ≡ n → n < j → j < length pages → get_or pages i d ≢ get_or pages j d
  at i j d same less there e =
      here (j - (n + 1)) d (omega (arith, length-drop (n + 1) pages))
      (get_or_default pages n 0 d h ∙ ap (λ k. get_or pages k d) (sym same) ∙ e
      ∙ ap (λ k. get_or pages k d) (omega arith) ∙ sym (get_or-drop (n + 1) pages (j - (n + 1)) d))

-- if all pages occur once, they are distinct
pub all_apart : (pages : List ℕ) (n : ℕ) → length pages ≤ n → ApartTo pages n → AreDistinct pages
all_apart pages n h so = λ i j d less there. so.apart i j d (omega arith) less there
