-- A text that is cut to the room for it.
use Rattle.std.proofs.Common.{◌≡◌, ◌∙◌, ap, ℕ, ◌-◌, ◌≤◌, inl, inr, List, [], ◌++◌, append-nil, append_assoc}
use Rattle.std.proofs.Common.{arith, length, length-append, length-take, min, replicate, sym, take}
use Rattle.std.proofs.Math.Seq.{take-append-add}
use Rattle.std.proofs.lemmas.Bool.{cases_lt}
use Rattle.std.proofs.lemmas.List.{take-append-le, take_all}
use Rattle.nvme_controller.specs.FaultText.{c_text}

-- a text with nothing after it
pub no_more : (text : List ℕ) → text ++ [] ≡ text
no_more text = append-nil text

-- a text of C in the room after the first bytes of another, as many as fit, makes one text of both
pub after : (text more : List ℕ) (room count : ℕ) → count ≡ min (length text) (room - 1)
    → take count text ++ c_text (room - count) more ≡ c_text room (text ++ more)
after text more room count is =
    let rest = take (room - count - 1) more in
    let size = length-take (room - count - 1) more in
    elim (cases_lt (room - 1) (length text)) [
      | inl below ↦
          let full : count ≡ room - 1 = omega (arith, below, is) in
          let none : length rest ≡ 0 = omega (arith, full, size) in
          let empty : rest ≡ [] = ap (λ n. take n more) {y = 0} (omega (arith, full)) in
          let shown : take count text ≡ take (room - 1) (text ++ more) =
          ap (λ n. take n text) full ∙ sym (take-append-le (room - 1) text more (omega (arith, below))) in
          let left : room - count - length rest ≡ room - length (take (room - 1) (text ++ more)) =
          omega (arith, full, below, none, length-take count text, ap (λ (x : List ℕ). length x) shown) in
          ap (λ x. take count text ++ (x ++ replicate (room - count - length rest) 0)) empty
          ∙ (λ i. shown i ++ replicate (left i) 0)
      | inr above ↦
          let whole : count ≡ length text = omega (arith, above, is) in
          let front : take count text ≡ text =
          ap (λ n. take n text) whole ∙ take_all (length text) text (omega arith) in
          let shown : text ++ rest ≡ take (room - 1) (text ++ more) =
          sym (take-append-add text more (room - count - 1))
          ∙ ap (λ n. take n (text ++ more)) (omega (arith, whole, above)) in
          let left : room - count - length rest ≡ room - length (take (room - 1) (text ++ more)) =
          omega (arith, whole, length-append text rest, ap (λ (x : List ℕ). length x) shown) in
          ap (λ x. x ++ (rest ++ replicate (room - count - length rest) 0)) front
          ∙ sym (append_assoc text rest (replicate (room - count - length rest) 0))
          ∙ (λ i. shown i ++ replicate (left i) 0)
    ]
