-- What is found in a map after the values of some keys are changed.
use Rattle.std.proofs.lemmas.Grind.{common_steps}
use Rattle.std.proofs.Common.{◌≡◌, ◌∙◌, ◌||◌, Bool, true, cond, List, [], ◌∷◌, map, Option, Some, None, arith, refl}
use Rattle.std.proofs.Common.{sym, ap, rules}
use Rattle.std.specs.FinMap as map_of
use Rattle.std.specs.declared.cmp.Ordering.{Ordering}
use Rattle.nv_model.proofs.Words.{changed_at_keys, eq_by_cmp, Equal-is, find, FinMap, fold, get-entries}
use Rattle.nv_model.proofs.Words.{get-from_entries, get-insert, if◌then◌else◌, IsAntisymmetric, IsTotalOrder, list_any}
use Rattle.nv_model.proofs.Words.{option_map, option_map_or, same_map}

-- the value of a key, changed
abbrev changed_if : {X : Type 0} → Bool → (X → X) → Option X → Option X
changed_if b change o = cond b (option_map change o) o

module _ {K X : Type 0} {R : K → K → Ordering} (total : IsTotalOrder R) (same : IsAntisymmetric R)
    (change : X → X) where
  -- whether a key is in a list of keys
  abbrev is_in : List K → K → Bool
  is_in keys q = list_any (eq_by_cmp R q) keys

  -- keys that pass the test for the same key are equal
  tied : (q k : K) → eq_by_cmp R q k ≡ true → q ≡ k
  tied q k e = same q k ((Equal-is (R q k)).0 e)

  -- in entries whose values at some keys are changed, a key of these has its value changed, and any other as before
  found : (keys : List K) (es : List (K × X)) (q : K)
      → find R q (map (λ e. (e.0, if is_in keys e.0 then change e.1 else e.1)) es)
      ≡ changed_if (is_in keys q) change (find R q es)
  found keys [] q = grind arith
  found keys (e ∷ es) q = grind (arith, tied q e.0, found keys es q)

  -- in a map changed at some keys, a key of these has its value changed, and any other has its own
  pub get-changed_at_keys : (keys : List K) (m : FinMap R X) (q : K)
      → map_of.get (changed_at_keys keys change m) q ≡ changed_if (is_in keys q) change
      (map_of.get m q)
  get-changed_at_keys keys m q = search (rules, get-from_entries, found, get-entries)

  -- a map changed at no keys is the same
  pub changed_at_none : (m : FinMap R X) → changed_at_keys [] change m ≡ m
  changed_at_none m = same_map total same _ m (get-changed_at_keys [] m)

  -- the map with the value of one key changed
  abbrev changed_at_one : FinMap R X → K → FinMap R X
  changed_at_one m k = option_map_or (λ x. map_of.insert m k (change x)) (map_of.get m k) m

  -- in a map changed at one key, this key has its value changed, and any other has its own
  get-changed_at_one : (m : FinMap R X) (k q : K)
      → map_of.get (changed_at_one m k) q ≡ changed_if (eq_by_cmp R q k) change (map_of.get m q)
  get-changed_at_one m k q = grind (arith, common_steps, eq_by_cmp, tied, get-insert)

  -- a change that has no effect the second time can be made key by key
  pub changed_at_more : ((x : X) → change (change x) ≡ change x)
      → (k : K) (keys : List K) (m : FinMap R X)
      → changed_at_keys keys change (changed_at_one m k) ≡ changed_at_keys (k ∷ keys) change m
  changed_at_more once k keys m = same_map total same _ _ (λ q.
      get-changed_at_keys keys (changed_at_one m k) q
      ∙ ap (changed_if (is_in keys q) change) (get-changed_at_one m k q)
      ∙ both (eq_by_cmp R q k) (is_in keys q) (map_of.get m q)
      ∙ sym (get-changed_at_keys (k ∷ keys) m q))
    where
      twice : (o : Option X) → option_map change (option_map change o) ≡ option_map change o
      twice None = refl
      twice (Some x) = ap Some (once x)

      both : (a b : Bool) (o : Option X) → changed_if b change (changed_if a change o)
          ≡ changed_if (a || b) change o
      both a b o = grind (arith, twice o)

  -- changing a map at one key after another changes it at all of them, if a second change has no effect
  pub folded : ((x : X) → change (change x) ≡ change x) → (keys : List K) (m : FinMap R X)
      → fold changed_at_one m keys ≡ changed_at_keys keys change m
  folded once [] m = sym (changed_at_none m)
  folded once (k ∷ keys) m = folded once keys (changed_at_one m k) ∙ changed_at_more once k keys m
