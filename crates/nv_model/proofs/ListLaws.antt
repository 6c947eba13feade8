-- A list of NSIDs that is returned fits a namespace list.
use Rattle.std.proofs.lemmas.Grind.{common_steps}
use Rattle.std.proofs.Common.{◌≡◌, ◌≢◌, ◌∙◌, ℕ, ◌+◌, ◌-◌, ◌<◌, ◌≤◌, ◌^◌, ◌&&◌, arith, Bool, true}
use Rattle.std.proofs.Common.{List, [], ◌∷◌, length, map, rules}
use Rattle.std.specs.FinMap as map_of
use Rattle.std.proofs.Math.Dec.{T}
use Rattle.nv_model.proofs.Words.{above, AllByRecursion, contains_key-keys, entries_sorted}
use Rattle.nv_model.proofs.Words.{eq_by_cmp, is_lt, is_sorted, IsNsidList, left, length-filter, length-map, less}
use Rattle.nv_model.proofs.Words.{list_any, most_nsids, nat_cmp, or_right, right}

-- if two truth values hold, so does their conjunction
both : (a b : Bool) → T a → T b → T (a && b)
both a b h e = search rules

-- there are no more numbers above another one than numbers in all
above_few : (after : ℕ) (ns : List ℕ) → length (above after ns) ≤ length ns
above_few after ns = grind (arith, common_steps, length-filter)

module _ {X : Type 0} where
  -- the test of an order: each later key is greater than a given one
  abbrev below_all : ℕ → List (ℕ × X) → Bool
  below_all k [] = true
  below_all k (e ∷ es) = is_lt (nat_cmp k e.0) && below_all k es

  -- in sorted entries, each later key is above the first
  keys_above : (k : ℕ) (x : X) (es : List (ℕ × X)) → T (is_sorted nat_cmp ((k, x) ∷ es))
      → AllByRecursion (λ e. k < e.0) es
  keys_above k x [] h = tt
  keys_above k x (e ∷ es) h =
      let front = left (is_lt (nat_cmp k e.0) && below_all k es) (below_all e.0 es
      && is_sorted nat_cmp es) h in
      let back = right (is_lt (nat_cmp k e.0) && below_all k es) (below_all e.0 es
      && is_sorted nat_cmp es) h in (
        less k e.0 (left (is_lt (nat_cmp k e.0)) (below_all k es) front),
        keys_above k x es (both (below_all k es) (is_sorted nat_cmp es)
            (right (is_lt (nat_cmp k e.0)) (below_all k es) front) (right (below_all e.0 es)
            (is_sorted nat_cmp es) back)),
      )

  -- keys above k, up to nn, are from k + 1 to nn
  raised : (k nn : ℕ) (es : List (ℕ × X)) → AllByRecursion (λ e. k < e.0) es
      → AllByRecursion (λ e. e.0 ≤ nn) es → AllByRecursion (λ e. (k + 1 ≤ e.0) × (e.0 ≤ nn)) es
  raised k nn [] a b = tt
  raised k nn (e ∷ es) a b = ((omega (arith, a.0), b.0), raised k nn es a.1 b.1)

  -- keys from `lo` to nn are up to nn
  tops : (lo nn : ℕ) (es : List (ℕ × X)) → AllByRecursion (λ e. (lo ≤ e.0) × (e.0 ≤ nn)) es
      → AllByRecursion (λ e. e.0 ≤ nn) es
  tops lo nn [] a = tt
  tops lo nn (e ∷ es) a = (a.0.1, tops lo nn es a.1)

  -- sorted keys from `lo` to nn are no more than the numbers in that range
  few : (lo nn : ℕ) (es : List (ℕ × X)) → T (is_sorted nat_cmp es) → AllByRecursion (λ e. (lo ≤ e.0)
      × (e.0 ≤ nn)) es → length es ≤ (nn + 1) - lo
  few lo nn [] h a = omega arith
  few lo nn (e ∷ es) h a =
      let rest = few (e.0 + 1) nn es (right (below_all e.0 es) (is_sorted nat_cmp es) h)
      (raised e.0 nn es (keys_above e.0 e.1 es h) (tops lo nn es a.1)) in
      omega (arith, rest, a.0.0, a.0.1)

  -- if a statement holds for each number that is found, it holds for each key
  each_key : (B : ℕ → Type 0) (es : List (ℕ × X))
      → ((n : ℕ) → list_any (eq_by_cmp nat_cmp n) (map (λ e. e.0) es) ≡ true → B n)
      → AllByRecursion (λ e. B e.0) es
  each_key B [] h = tt
  each_key B (e ∷ es) h =
      grind (arith, common_steps, each_key B es (λ n t. h n (or_right (eq_by_cmp nat_cmp n e.0) _ t)))

  -- keys from 1 to nn that are above a number are identifiers of 32 bits other than 0
  above_in : (after nn : ℕ) (es : List (ℕ × X)) → nn ≤ most_nsids → AllByRecursion (λ e. (1 ≤ e.0)
      × (e.0 ≤ nn)) es → AllByRecursion (λ n. (n ≢ 0) × (n < 2 ^ 32))
      (above after (map (λ e. e.0) es))
  above_in after nn [] h a = tt
  above_in after nn (e ∷ es) h a = search (rules, above_in after nn es h a.1)

  -- the keys of a map above a number fit a namespace list if all keys are from 1 to nn
  pub keys_fit : (after nn : ℕ) (m : map_of.FinMap nat_cmp X) → nn ≤ most_nsids
      → ((n : ℕ) → map_of.contains_key m n ≡ true → (1 ≤ n) × (n ≤ nn))
      → IsNsidList (above after (map_of.keys m))
  keys_fit after nn m h inside =
      let es = map_of.entries m in
      let all =
      each_key (λ n. (1 ≤ n) × (n ≤ nn)) es (λ n t. inside n (contains_key-keys m n ∙ t)) in
      record {
        count = omega (
          arith,
          above_few after (map (λ e. e.0) es),
          few 1 nn es (entries_sorted m) all,
          length-map es (λ e. e.0),
        );
        numbers = above_in after nn es h all;
      }
