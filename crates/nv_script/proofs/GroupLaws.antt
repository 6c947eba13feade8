-- The batches of `list`, and their orders, one after another.
use Rattle.nv_script.proofs.Words.{[], ⊎_elim, ℕ, ◌++◌, ◌-◌, ◌<◌, ◌∙◌, ◌∷◌, ◌≡◌, ◌≤◌, ActiveList, Batch}
use Rattle.nv_script.proofs.Words.{IdentifyController, IdentifyNamespace, List, Order, State, above, active_nsids, ap}
use Rattle.nv_script.proofs.Words.{append-nil, append_assoc, arith, asking_for, batches_of_controller, drop, drop_all}
use Rattle.nv_script.proofs.Words.{flat_map, flat_map-append, groups, length, length-drop, map, map-append, min}
use Rattle.nv_script.proofs.Words.{namespace_batches, order_of, orders_in, orders_in_all, orders_of, range_with_len}
use Rattle.nv_script.proofs.Words.{refl, suc, sym, take, take-append-drop, take_all, zero}
use Rattle.std.proofs.lemmas.Bool.{cases_lt}
use Rattle.nv_line.specs.declared.request.Query.TheVariants as query

-- ---- the orders, one by one

-- the orders for the data of these namespaces
abbrev pub namespace_orders : ℕ → List ℕ → List Order
namespace_orders c nsids = map (λ n. order_of c (IdentifyNamespace n)) nsids

-- the orders of a controller
abbrev pub orders_of_controller : State → ℕ → List Order
orders_of_controller s c =
    order_of c IdentifyController ∷ order_of c (ActiveList 0) ∷ namespace_orders c (above 0 (active_nsids s c))

-- the commands for NSIDs as orders are the orders for these NSIDs
orders_are : (c : ℕ) (ns : List ℕ) → map (order_of c) (map IdentifyNamespace ns) ≡ namespace_orders c ns
orders_are c [] = refl
orders_are c (n ∷ ns) = ap (λ os. order_of c (IdentifyNamespace n) ∷ os) (orders_are c ns)

-- a batch of them has these orders
pub batch_orders : (c : ℕ) (ns : List ℕ) → orders_in_all (asking_for c ns ∷ []) ≡ namespace_orders c ns
batch_orders c ns = append-nil (map (order_of c) (map IdentifyNamespace ns)) ∙ orders_are c ns

-- ---- groups of sixteen

-- groups are the same for each number of them that is enough
same_groups : (m n : ℕ) (ns : List ℕ) → length ns ≤ m → length ns ≤ n → groups m ns ≡ groups n ns
same_groups zero zero [] h k = refl
same_groups zero (suc n) [] h k = refl
same_groups (suc m) zero [] h k = refl
same_groups (suc m) (suc n) [] h k = refl
same_groups zero n (x ∷ xs) h k = absurd (omega arith)
same_groups (suc m) zero (x ∷ xs) h k = absurd (omega arith)
same_groups (suc m) (suc n) (x ∷ xs) h k =
    let rest = drop 16 (x ∷ xs) in
    ap (λ gs. take 16 (x ∷ xs) ∷ gs)
    (same_groups m n rest (omega (arith, length-drop 16 (x ∷ xs))) (omega (arith, length-drop 16 (x ∷ xs))))

-- the first group has sixteen NSIDs, or all if there are fewer
first_group : (ns : List ℕ) (count : ℕ) → count ≡ min (length ns) 16
    → (take 16 ns ≡ take count ns) × (drop 16 ns ≡ drop count ns)
first_group ns count e = ⊎_elim
    (λ few. let all : count ≡ length ns = omega arith in (
      take_all 16 ns (omega arith) ∙ sym (take_all count ns (omega arith)),
      drop_all 16 ns (omega arith) ∙ sym (drop_all count ns (omega arith)),
    ))
    (λ many. let full : 16 ≡ count = omega arith in (ap (λ n. take n ns) full, ap (λ n. drop n ns) full))
    (cases_lt (length ns) 16)

-- the batches for NSIDs are a batch for the first group, and then those for the rest
batches_next : (c : ℕ) (ns : List ℕ) (count : ℕ) → 0 < length ns → count ≡ min (length ns) 16
    → namespace_batches c ns ≡ asking_for c (take count ns) ∷ namespace_batches c (drop count ns)
batches_next c [] count some e = absurd (omega arith)
batches_next c (x ∷ xs) count some e =
    let first = first_group (x ∷ xs) count e in
    let rest = drop 16 (x ∷ xs) in
    ap (λ gs. asking_for c (take 16 (x ∷ xs)) ∷ map (asking_for c) gs)
    (same_groups (length xs) (length rest) rest (omega (arith, length-drop 16 (x ∷ xs))) (omega arith))
    ∙ ap (λ ns. asking_for c ns ∷ namespace_batches c rest) first.0
    ∙ ap (λ ns. asking_for c (take count (x ∷ xs)) ∷ namespace_batches c ns) first.1

module _ (c : ℕ) (all done : List Batch) (ns : List ℕ) (count : ℕ) (some : 0 < length ns)
    (e : count ≡ min (length ns) 16) (is : all ≡ done ++ namespace_batches c ns) where
  -- after the batches that are done comes the one for the first group of the rest
  pub group_next : all ≡ done ++ (asking_for c (take count ns) ∷ namespace_batches c (drop count ns))
  group_next = is ∙ ap (λ bs. done ++ bs) (batches_next c ns count some e)

  -- when that is done too, those for what follows the group are left
  pub groups_left : all ≡ (done ++ asking_for c (take count ns) ∷ [])
      ++ namespace_batches c (take (length ns - count) (drop count ns))
  groups_left =
      group_next ∙ sym (append_assoc done (asking_for c (take count ns) ∷ []) (namespace_batches c (drop count ns)))
      ∙ ap (λ rest. (done ++ asking_for c (take count ns) ∷ []) ++ namespace_batches c rest)
      (sym (take_all (length ns - count) (drop count ns) (omega (arith, length-drop count ns))))

-- ---- the orders of all groups

-- the orders for NSIDs and more NSIDs are the orders for the first and then for the others
namespaces_join : (c : ℕ) (ns more : List ℕ)
    → namespace_orders c (ns ++ more) ≡ namespace_orders c ns ++ namespace_orders c more
namespaces_join c ns more = map-append (λ n. order_of c (IdentifyNamespace n)) ns more

-- enough groups have the orders for all NSIDs
group_orders : (c n : ℕ) (ns : List ℕ) → length ns ≤ n
    → orders_in_all (map (asking_for c) (groups n ns)) ≡ namespace_orders c ns
group_orders c zero [] h = refl
group_orders c zero (x ∷ xs) h = absurd (omega arith)
group_orders c (suc n) [] h = refl
group_orders c (suc n) (x ∷ xs) h =
    let rest = group_orders c n (drop 16 (x ∷ xs)) (omega (arith, length-drop 16 (x ∷ xs))) in
    (λ i. orders_are c (take 16 (x ∷ xs)) i ++ rest i)
    ∙ sym (namespaces_join c (take 16 (x ∷ xs)) (drop 16 (x ∷ xs)))
    ∙ ap (namespace_orders c) (take-append-drop 16 (x ∷ xs))

-- the batches of a controller have its orders
pub controller_orders : (s : State) (c : ℕ) → orders_in_all (batches_of_controller s c) ≡ orders_of_controller s c
controller_orders s c =
    let ns = above 0 (active_nsids s c) in
    ap (λ os. order_of c IdentifyController ∷ order_of c (ActiveList 0) ∷ os)
    (group_orders c (length ns) ns (omega arith))

-- the batches of several controllers have their orders
controllers_orders : (s : State) (cs : List ℕ)
    → orders_in_all (flat_map (batches_of_controller s) cs) ≡ flat_map (orders_of_controller s) cs
controllers_orders s [] = refl
controllers_orders s (c ∷ cs) =
    flat_map-append orders_in (batches_of_controller s c) (flat_map (batches_of_controller s) cs)
    ∙ (λ i. controller_orders s c i ++ controllers_orders s cs i)

-- the orders of `list` are those of each controller
pub list_orders : (s : State)
    → orders_of s query.List ≡ flat_map (orders_of_controller s) (range_with_len 0 (length s.controllers))
list_orders s = controllers_orders s (range_with_len 0 (length s.controllers))
