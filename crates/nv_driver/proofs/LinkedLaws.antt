-- The effect of a new driver, its commands and its resets on command identifiers and register banks.
use Rattle.nv_driver.proofs.Words.{[], ℕ, ◌++◌, ◌+◌, ◌<◌, ◌↔◌, ◌∙◌, ◌∷◌, ◌≡◌, ◌≢◌, BusValue, DriverValue, Err, Geometry}
use Rattle.nv_driver.proofs.Words.{IsLinked, List, None, Ok, Option, QueuePair, Result, Some, after_command, after_one}
use Rattle.nv_driver.proofs.Words.{ap, arith, cid_after, enabled_in, geometry_fault, get_or, get_or-map, idle_bank}
use Rattle.nv_driver.proofs.Words.{length, length-map, map, map-append, map-range_with_len_more, map-set, map-set_same}
use Rattle.nv_driver.proofs.Words.{mps_of, no_pair, pair_at, pair_of, pairs_of, refl, renewed_pair, replicate}
use Rattle.nv_driver.proofs.Words.{replicate_more, subst, suc, sym, true, zero}
use Rattle.std.proofs.Common.{set, zero-add}
use Rattle.std.proofs.lemmas.List.{length-set}
use Rattle.nv_driver.specs.Driver.{after_reset, new_driver}
use Rattle.nv_driver.specs.inner.Driver.{error_without}
use Rattle.nv_driver.specs.inner.Linked.{next_cids_of}
use Rattle.nv_driver.specs.declared.error.DriverError.{DriverError}
use Rattle.nv_driver.specs.declared.geometry_field.GeometryField.{GeometryField}
use Rattle.nv_driver.specs.declared.error.DriverError.TheVariants as error

-- the command identifier that is due at a queue pair
abbrev next_cid : QueuePair → ℕ
next_cid l = l.next_cid

-- a driver has a queue pair for each controller
pub pair_count : (b : BusValue) (d : DriverValue) → IsLinked b d → length d.pairs ≡ length b.state.controllers
pair_count b d is =
    sym (length-map d.pairs (idle_bank (mps_of d.geometry.page_size) d.geometry.page_size)) ∙ sym (ap length is.left)
    ∙ is.bus.banks

-- before the first command, every next command identifier is 0
pub first_cids : (g : Geometry) (n : ℕ) → next_cids_of (new_driver g n) ≡ replicate n 0
first_cids g zero = refl
first_cids g (suc n) =
    let next : suc n ≡ n + 1 = omega arith in
    subst (λ k. next_cids_of (new_driver g k) ≡ replicate k 0) (sym next)
    (ap (map next_cid) (map-range_with_len_more (pair_of g) 0 n n (zero-add n))
    ∙ map-append next_cid (pairs_of g n) (pair_of g n ∷ [])
    ∙ ap (λ xs. xs ++ 0 ∷ []) (first_cids g n)
    ∙ replicate_more n 0)

-- a driver's controllers are enabled
pub all_enabled : (b : BusValue) (d : DriverValue) → IsLinked b d
    → enabled_in b.banks ≡ replicate (length b.state.controllers) true
all_enabled b d is = ap enabled_in is.left ∙ each d.pairs ∙ ap (λ n. replicate n true) (pair_count b d is)
  where
    each : (pairs : List QueuePair)
        → enabled_in (map (idle_bank (mps_of d.geometry.page_size) d.geometry.page_size) pairs)
        ≡ replicate (length pairs) true
    each [] = refl
    each (l ∷ ls) = ap (λ xs. true ∷ xs) (each ls)

-- a queue pair's next command identifier is that of its controller
pub next_cid_is : (d : DriverValue) (c : ℕ) → c < length d.pairs
    → (pair_at d.pairs c).next_cid ≡ get_or (next_cids_of d) c 0
next_cid_is d c below = sym (get_or-map next_cid d.pairs c no_pair 0 below)

-- the command identifiers after a command: the controller's next one is due
pub cids_after : (d after : DriverValue) (c : ℕ) → c < length d.pairs → after ≡ after_command d c
    → next_cids_of after ≡ set (next_cids_of d) c (cid_after (get_or (next_cids_of d) c 0))
cids_after d after c below is = ap next_cids_of is ∙ map-set next_cid d.pairs c (after_one (pair_at d.pairs c))
    ∙ ap (λ n. set (next_cids_of d) c (cid_after n)) (next_cid_is d c below)

-- a reset doesn't change the next command identifiers
pub cids_reset : (d after : DriverValue) (c : ℕ) → after ≡ after_reset d c → next_cids_of after ≡ next_cids_of d
cids_reset d after c is =
    ap next_cids_of is ∙ map-set_same next_cid d.pairs c (renewed_pair (pair_at d.pairs c)) no_pair refl

-- a command doesn't change the number of queue pairs
pub same_pairs : (d after : DriverValue) (c : ℕ) → after ≡ after_command d c → length after.pairs ≡ length d.pairs
same_pairs d after c e = ap (λ (x : DriverValue). length x.pairs) e
    ∙ length-set d.pairs c (after_one (pair_at d.pairs c))

-- ---- with or without a driver

-- an optional value that isn't any value is None
none_by : {F : Type 0} (o : Option F) → ((f : F) → o ≢ Some f) → o ≡ None
none_by None h = refl
none_by (Some f) h = absurd (h f refl)

-- a driver was brought up, and any field outside its limits would have been reported
pub without_fault : {D : Type 0} (g : Geometry) (d : D)
    → ((field : GeometryField)
    → ◌≡◌ {A = Result D DriverError} (Ok d) (Err (error.Geometry field)) ↔ (geometry_fault g ≡ Some field))
    → geometry_fault g ≡ None
without_fault g d h = none_by (geometry_fault g) (λ field k. let never = (h field).1 k in absurd (cc))

-- an error without a driver is the first field of the geometry outside its limits, or else lack of memory
pub without : {D : Type 0} (g : Geometry) (e : DriverError)
    → ((field : GeometryField)
    → ◌≡◌ {A = Result D DriverError} (Err e) (Err (error.Geometry field)) ↔ (geometry_fault g ≡ Some field))
    → ◌≢◌ {A = Result D DriverError} (Err e) (Err error.NoReady) → e ≡ error_without (geometry_fault g)
without g (error.Geometry field) h ready = ap error_without (sym ((h field).0 refl))
without g error.Memory h ready =
    let none = none_by (geometry_fault g) (λ field k. let same = (h field).1 k in absurd (cc)) in
    ap error_without (sym none)
without g error.NoReady h ready = absurd (ready refl)
