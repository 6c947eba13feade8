-- A loop over controllers that changes each.
use Rattle.std.proofs.Common.{◌≡◌, ◌∙◌, ℕ, ◌+◌, ◌<◌, ◌++◌, List, length, map, take, drop, set, get_or, add-one}
use Rattle.nv_subsystem.proofs.Words.{All, All-set, Becomes, Controller, controller_view, IsSized, next_mapped}
use Rattle.nv_subsystem.specs.declared.controller.Controller as code

-- the first i of them were changed
pub record Changed (f : Controller → Controller) (old now : List code.Controller) (i : ℕ) : Type 0 where
  pub views : take i (map controller_view now) ++ map f (drop i (map controller_view now))
      ≡ map f (map controller_view old)
  pub sized : (nn : ℕ) → All (IsSized nn) old → All (IsSized nn) now

-- if the first i controllers were changed and the next one is changed now, the first i + 1 are
pub one_more : (f : Controller → Controller) (old now : List code.Controller) (i : ℕ)
    → Changed f old now i → (d : code.Controller) → i < length now → (y : code.Controller)
    → Becomes f (get_or now i d) y → Changed f old (set now i y) (i + 1)
one_more f old now i so_far d h y is = record {
  views = rw add-one (next_mapped controller_view f now i y d h is.view ∙ so_far.views);
  sized = λ nn all.
      let now_all = so_far.sized nn all in
      All-set (IsSized nn) now i y (is.sized nn (now_all i d h)) now_all;
}
