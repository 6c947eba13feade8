-- The pieces of a text that is cut at each character that passes a test.
use Rattle.std.proofs.Common.{◌≡◌, ◌≤◌, ◌<◌, ◌∙◌, ◌++◌, ◌∷◌, [], ℕ, Bool, Bor, List, Option, Some, None, ap, arith}
use Rattle.std.proofs.Common.{cond, drop, false, get_or, length, sym, subst, take, take-append-drop, true, true≢false}
use Rattle.std.proofs.Common.{⊎_elim}
use Rattle.std.proofs.lemmas.Bool.{cases_lt}
use Rattle.std.proofs.lemmas.Fn.{always_returns_same}
use Rattle.std.proofs.lemmas.Iterator.{YieldsList}
use Rattle.std.proofs.lemmas.Iterator.Splits.{YieldsList-from_shown_while}
use Rattle.std.proofs.lemmas.List.{get_or_default}
use Rattle.std.proofs.lemmas.List.Splits.{slice_split_at, slice_split_none}
use Rattle.std.proofs.lemmas.Str.{NoCharPasses-byte, encode_ascii, len_utf8_bounds}
use Rattle.std.specs.Fn.{AlwaysReturns}
use Rattle.std.specs.List.{All, slice_split}
use Rattle.std.specs.Option.{MatchOption}
use Rattle.std.specs.Str.{NoCharPasses}
use Rattle.std.specs.Str.Iter.{split_has_more, split_pattern, split_steps, split_text}
use Rattle.std.specs.Str.Pattern.{FindsBy}
use denote.Param.Members.{Called, Mut}

-- only ASCII characters pass a test
abbrev IsAscii : (ℕ → Bool) → Type 0
IsAscii k = (c : ℕ) → 128 ≤ c → k c ≡ false

-- no byte passes the test if no character does
none_passes : (k : ℕ → Bool) → IsAscii k → (bs : List ℕ) → NoCharPasses k bs → All (λ b. k b ≡ false) bs
none_passes k ascii bs none = λ i d less.
    subst (λ b. k b ≡ false) (get_or_default bs i 0 d less)
    (⊎_elim (NoCharPasses-byte k bs i none less) (ascii (get_or bs i 0)) (cases_lt (get_or bs i 0) 128))

-- the pieces are what comes before the first match, and the pieces of what follows it
first_piece : (k : ℕ → Bool) → IsAscii k → (w x rest : List ℕ) (more : Bool) (o : Option (ℕ × ℕ)) → FindsBy k w o
    → MatchOption o ((x ≡ w) × (more ≡ false))
    (λ q. 0 < q.1 → (x ≡ take q.0 w) × (more ≡ true) × (rest ≡ drop q.1 w))
    → slice_split k w ≡ x ∷ cond more (slice_split k rest) []
first_piece k ascii w x rest more None none cut =
    slice_split_none k w (none_passes k ascii w none) ∙ (λ i. sym cut.0 i ∷ cond (sym cut.1 i) (slice_split k rest) [])
first_piece k ascii w x rest more (Some q) found cut =
    let c = found.1.0 in
    let at = found.1.2 in
    let parts = cut (omega (arith, at.ends, (len_utf8_bounds c).0)) in
    let low : c < 128 = ⊎_elim (λ l. l) (λ h. absurd (true≢false (sym found.1.1 ∙ ascii c h))) (cases_lt c 128) in
    let whole : w ≡ take q.0 w ++ c ∷ drop q.1 w = sym (take-append-drop q.0 w)
    ∙ ap (λ l. take q.0 w ++ l) (at.split ∙ ap (λ l. l ++ drop q.1 w) (encode_ascii c low)) in
    ap (slice_split k) whole
    ∙ slice_split_at k (take q.0 w) c (drop q.1 w) (none_passes k ascii (take q.0 w) found.0) found.1.1
    ∙ (λ i. sym parts.0 i ∷ cond (sym parts.1 i) (slice_split k (sym parts.2 i)) [])

-- the pieces of a text that is cut at each character for which a closure returns true, with k the test that it computes
pub pieces : {F : Type 0} {g : Mut F (ℕ × Unit {0}) Bool} {f : F} {s : _} (k : ℕ → Bool) → IsAscii k → (bs : List ℕ)
    → split_text s ≡ bs → split_has_more s ≡ true → split_pattern s ≡ f
    → ((c : ℕ) (b : Bool) (q : F) → Called g f (c, tt) b q → (q ≡ f) × (b ≡ k c))
    → YieldsList (split_steps (λ p w o. (t : ℕ → Bool) → AlwaysReturns g (λ a r. r ≡ t a.0) p → FindsBy t w o)
    (λ p q. (t : ℕ → Bool) → AlwaysReturns g (λ a r. r ≡ t a.0) p → AlwaysReturns g (λ a r. r ≡ t a.0) q))
    (λ (x : Bor (List ℕ)). x.now) s (slice_split k bs)
pieces {F} {g} {f} {s} k ascii bs text more closure tests =
    let Passes = λ (p : F) (t : ℕ → Bool). AlwaysReturns g (λ a r. r ≡ t a.0) p in
    let steps = split_steps (λ (p : F) w o. (t : ℕ → Bool) → Passes p t → FindsBy t w o)
    (λ p q. (t : ℕ → Bool) → Passes p t → Passes q t) in
    subst (YieldsList steps (λ (x : Bor (List ℕ)). x.now) s) (λ i. cond (more i) (slice_split k (text i)) [])
    (YieldsList-from_shown_while steps (λ (x : Bor (List ℕ)). x.now)
    (λ t. cond (split_has_more t) (slice_split k (split_text t)) []) (λ t. Passes (split_pattern t) k)
    (λ t u h step. ap (λ b. length (cond b (slice_split k (split_text t)) [])) (sym step.0))
    (λ t x u h step.
    let cut = step.1.1.1 in (
      step.1.0 k h,
      ap (λ b. cond b (slice_split k (split_text t)) []) (sym step.0)
          ∙ first_piece k ascii (split_text t) x.now (split_text u) (split_has_more u) cut.0 (cut.1 k h) cut.2,
    ))
    s (subst (λ p. Passes p k) (sym closure)
    (always_returns_same g (λ a r. r ≡ k a.0) f (λ a r q called. let m = tests a.0 r q called in (m.1, m.0)))))
