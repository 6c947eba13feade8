-- The commands of `list` in a well-formed subsystem, controller by controller.
use Rattle.nv_script.proofs.Words.{[], ℕ, ◌++◌, ◌+◌, ◌-◌, ◌<◌, ◌∙◌, ◌∷◌, ◌≡◌, ◌≤◌, ActiveList, All, All-tail, Batch}
use Rattle.nv_script.proofs.Words.{Bool, IdentifyController, IsAlike, IsInside, IsWellFormed, List, Order, State, above}
use Rattle.nv_script.proofs.Words.{active_inside, active_nsids, alone, ap, append-nil, arith, attached}
use Rattle.nv_script.proofs.Words.{batches_of_controller, common_steps, controller, false, filter, flat_map}
use Rattle.nv_script.proofs.Words.{if◌then◌else◌, length, namespace, namespace_batches, nat_lt, orders_in_all}
use Rattle.nv_script.proofs.Words.{orders_of, range_with_len, subst, suc, sym, true}
use Rattle.nv_script.proofs.GroupLaws.{controller_orders, list_orders, namespace_orders, orders_of_controller}
use Rattle.nv_script.proofs.LookupLaws.{AreLookups, sends}
use Rattle.nv_line.specs.declared.request.Query.TheVariants as query

-- ---- they are lookups

module _ (nn : ℕ) where
  -- orders that are lookups and more lookups are lookups together
  lookups-append : (os more : List Order) → AreLookups nn os → AreLookups nn more → AreLookups nn (os ++ more)
  lookups-append [] more h k = k
  lookups-append (o ∷ os) more h k = (h.0, lookups-append os more h.1 k)

  -- the first ones of orders that are all lookups are lookups
  pub lookups-front : (os more : List Order) → AreLookups nn (os ++ more) → AreLookups nn os
  lookups-front [] more h = tt
  lookups-front (o ∷ os) more h = (h.0, lookups-front os more h.1)

  -- the commands for some of the NSIDs within the limit are lookups
  namespace_lookups : (c : ℕ) (test : ℕ → Bool) (ns : List ℕ) → All (IsInside nn) ns
      → AreLookups nn (namespace_orders c (filter test ns))
  namespace_lookups c test [] h = tt
  namespace_lookups c test (n ∷ ns) h =
      let rest = namespace_lookups c test ns (All-tail (IsInside nn) n ns h) in
      let first : IsInside nn n = h 0 n (omega arith) in
      at_test (test n) first rest
    where
      at_test : (b : Bool) → IsInside nn n → AreLookups nn (namespace_orders c (filter test ns))
          → AreLookups nn (namespace_orders c (if b then n ∷ filter test ns else filter test ns))
      at_test true first rest = (sends (namespace first), rest)
      at_test false first rest = rest

  -- if the orders of each controller are lookups, so are the orders of several controllers
  flat_lookups : (f : ℕ → List Order) → ((c : ℕ) → AreLookups nn (f c)) → (cs : List ℕ) → AreLookups nn (flat_map f cs)
  flat_lookups f h [] = tt
  flat_lookups f h (c ∷ cs) = lookups-append (f c) (flat_map f cs) (h c) (flat_lookups f h cs)

-- the orders of a controller in a well-formed subsystem are lookups
one_controller : (s : State) (c : ℕ) → IsWellFormed s → AreLookups s.nn (orders_of_controller s c)
one_controller s c w = (
  sends controller,
  (sends attached, namespace_lookups s.nn c (λ n. nat_lt 0 n) (active_nsids s c) (active_inside s c w)),
)

-- so are those of its batches
pub controller_lookups : (s : State) (c : ℕ) → IsWellFormed s
    → AreLookups s.nn (orders_in_all (batches_of_controller s c))
controller_lookups s c w = subst (AreLookups s.nn) (sym (controller_orders s c)) (one_controller s c w)

-- the orders of `list` in a well-formed subsystem are lookups
pub list_lookups : (s : State) → IsWellFormed s → AreLookups s.nn (orders_of s query.List)
list_lookups s w =
    subst (AreLookups s.nn) (sym (list_orders s))
    (flat_lookups s.nn (orders_of_controller s) (λ c. one_controller s c w) (range_with_len 0 (length s.controllers)))

-- ---- controller by controller

-- the batches of a controller and of the later ones
abbrev pub batches_from : State → ℕ → ℕ → List Batch
batches_from s i n = flat_map (batches_of_controller s) (range_with_len i (n - i))

-- the batches that are left are those of the next controller in a state that is alike, and then the later ones'
pub next_controller : (s now : State) (i n : ℕ) (all done : List Batch) → IsAlike s now → i < n
    → all ≡ done ++ batches_from s i n → all ≡ done ++ (batches_of_controller now i ++ batches_from s (i + 1) n)
next_controller s now i n all done alike below e =
    let more : n - i ≡ suc (n - (i + 1)) = omega arith in
    e ∙ ap (λ m. done ++ flat_map (batches_of_controller s) (range_with_len i m)) more
    ∙ ap (λ ns. done ++ ((alone i IdentifyController ∷ alone i (ActiveList 0) ∷ namespace_batches i (above 0 ns))
    ++ batches_from s (i + 1) n)) (sym (alike.active i))

-- if no controller is left, all batches are done
pub no_controller_left : (s : State) (i n : ℕ) (all done : List Batch) → n ≤ i → all ≡ done ++ batches_from s i n
    → all ≡ done
no_controller_left s i n all done over e = grind (arith, common_steps, append-nil)
