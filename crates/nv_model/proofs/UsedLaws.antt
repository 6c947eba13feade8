-- The capacity that is in use when a namespace is added or removed.
use Rattle.std.proofs.lemmas.Grind.{common_steps}
use Rattle.std.proofs.Common.{◌≡◌, ◌∙◌, ℕ, ◌+◌, List, [], ◌∷◌, map, length, cond, Some, None, refl, sym, ap, arith}
use Rattle.std.proofs.Common.{Ordering, rules}
use Rattle.std.specs.FinMap as map_of
use Rattle.std.specs.FinMap.Entries.{put, find}
use Rattle.nv_model.proofs.Words.{entries-insert, eq-eqb, get-entries, get_of_insert, get_of_remove}
use Rattle.nv_model.proofs.Words.{len-empty, len-entries, Namespace, Namespaces, nat_cmp, nat_cmp_total}
use Rattle.nv_model.proofs.Words.{same_numbers, sum_by, sum_by-cons, used}

-- the sum of the capacities of some entries
total : List (ℕ × Namespace) → ℕ
total es = sum_by (λ x. x.capacity) (map (λ e. e.1) es)

-- the sum of the capacities of one entry and others is its capacity and their sum
total-cons : (e : ℕ × Namespace) (es : List (ℕ × Namespace)) → total (e ∷ es)
    ≡ e.1.capacity + total es
unfolding total
total-cons e es = sum_by-cons (λ x. x.capacity) e.1 (map (λ e. e.1) es)

-- a namespace that is put before or after the first entry adds its capacity
put_at : (o : Ordering) (k : ℕ) (v : Namespace) (e : ℕ × Namespace) (es : List (ℕ × Namespace))
    → nat_cmp k e.0 ≡ o → find nat_cmp k (e ∷ es) ≡ None
    → (find nat_cmp k es ≡ None → total (put nat_cmp k v es) ≡ v.capacity + total es)
    → total (put nat_cmp k v (e ∷ es)) ≡ v.capacity + total (e ∷ es)
put_at o k v e es h f g = search (rules, total-cons)

-- a namespace that is put under an NSID without one adds its capacity
total-put : (k : ℕ) (v : Namespace) (es : List (ℕ × Namespace)) → find nat_cmp k es ≡ None
    → total (put nat_cmp k v es) ≡ v.capacity + total es
total-put k v [] none = total-cons (k, v) []
total-put k v (e ∷ es) none = put_at (nat_cmp k e.0) k v e es refl none (total-put k v es)

-- a namespace that is inserted under an NSID without one uses its capacity
pub used-insert : (m : Namespaces) (k : ℕ) (v : Namespace) → map_of.get m k ≡ None
    → used (map_of.insert m k v) ≡ v.capacity + used m
unfolding total
used-insert m k v none = ap total (entries-insert nat_cmp_total m k v)
    ∙ total-put k v (map_of.entries m) (sym (get-entries m k) ∙ none)

-- inserting a namespace again that was removed gives back the map
put_back : (m : Namespaces) (n : ℕ) (v : Namespace) → map_of.get m n ≡ Some v
    → map_of.insert (map_of.remove m n) n v ≡ m
put_back m n v found = search (rules, same_numbers, get_of_insert, get_of_remove)

-- a namespace that is removed frees its capacity
pub used-remove : (m : Namespaces) (n : ℕ) (v : Namespace) → map_of.get m n ≡ Some v
    → used m ≡ v.capacity + used (map_of.remove m n)
used-remove m n v found =
    sym (ap used (put_back m n v found))
    ∙ used-insert (map_of.remove m n) n v
    (get_of_remove m n n ∙ ap (λ b. cond b None (map_of.get m n)) (eq-eqb n n refl))

-- replacing a namespace by one with the same capacity uses the same capacity
pub used-change : (m : Namespaces) (n : ℕ) (v w : Namespace) → map_of.get m n ≡ Some v
    → w.capacity ≡ v.capacity → used (map_of.insert m n w) ≡ used m
used-change m n v w found same =
    grind (arith, common_steps, same_numbers, get_of_insert, get_of_remove, used, eq-eqb, used-remove)

-- the sum of the capacities of no entries is 0
none_used : (es : List (ℕ × Namespace)) → length es ≡ 0 → total es ≡ 0
unfolding total
none_used es h = grind (arith, common_steps)

-- an empty map of namespaces uses no capacity
pub used-empty : used map_of.empty ≡ 0
unfolding total
used-empty = none_used (map_of.entries map_of.empty)
    (sym (len-entries map_of.empty) ∙ len-empty nat_cmp Namespace)
