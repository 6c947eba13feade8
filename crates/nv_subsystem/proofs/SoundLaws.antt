-- Slots and the running total when a namespace is added or removed.
use Rattle.std.proofs.Common.{◌≡◌, ◌∙◌, ℕ, ◌+◌, ◌-◌, ◌<◌, ◌≤◌, false, List, length}
use Rattle.std.proofs.Common.{Some, None, is_some, sym, ap, arith}
use Rattle.std.specs.FinMap as map_of
use Rattle.nv_model.specs.declared.format.Format.{Format}
use Rattle.nv_subsystem.specs.declared.controller.Controller.{Controller}
use Rattle.nv_subsystem.proofs.Words.{All, get-empty, get_of_insert, get_of_remove, IsSized, IsSound, Namespace}
use Rattle.nv_subsystem.proofs.Words.{nat_cmp, RangeMap, remove_absent, used, used-change, used-empty}
use Rattle.nv_subsystem.proofs.Words.{used-insert, used-remove}

-- slots, formats and controllers are sound, and the running total and the used capacity are TNVMCAP
abbrev AddsUp : RangeMap Namespace → List Format → List Controller → ℕ → ℕ → Type 0
AddsUp m fs cs unallocated tnvmcap = IsSound m fs cs × (unallocated + used m.values ≡ tnvmcap)

module _ (m : RangeMap Namespace) (fs : List Format) (cs : List Controller)
    (unallocated tnvmcap : ℕ) (is : AddsUp m fs cs unallocated tnvmcap) (n : ℕ) where
  -- the slots stay sound if a slot gets a namespace in one of the first 16 formats
  sound-slot : (x : Namespace) → x.format < 16
      → IsSound (record m { values = map_of.insert m.values n x }) fs cs
  sound-slot x small =
      let in_formats : (q : ℕ) (y : Namespace) → map_of.get (map_of.insert m.values n x) q ≡ Some y → y.format < 16 =
      λ q y e. grind (arith, get_of_insert m.values n x q, is.0.in_formats q y) in
      assumption (in_formats, is.0)

  -- adding a namespace with enough capacity left takes its capacity from the total
  pub sound-insert : (x : Namespace) → map_of.contains_key m.values n ≡ false
      → x.capacity ≤ unallocated → x.format < 16
      → AddsUp (record m { values = map_of.insert m.values n x }) fs cs
      (unallocated - x.capacity) tnvmcap
  sound-insert x free room small =
      let none : map_of.get m.values n ≡ None = grind arith in
      (sound-slot x small, omega (arith, is.1, used-insert m.values n x none))

  -- changing a namespace without its capacity keeps the total
  pub sound-change : (x y : Namespace) → map_of.get m.values n ≡ Some x
      → y.capacity ≡ x.capacity → y.format < 16
      → AddsUp (record m { values = map_of.insert m.values n y }) fs cs unallocated tnvmcap
  sound-change x y found same small =
      (sound-slot y small, omega (arith, is.1, used-change m.values n x y found same))

  -- removing what NSID n has keeps the slots sound, with a total that adds up
  sound-without : (total : ℕ) → total + used (map_of.remove m.values n) ≡ tnvmcap
      → AddsUp (record m { values = map_of.remove m.values n }) fs cs total tnvmcap
  sound-without total adds =
      let in_formats : (q : ℕ) (y : Namespace) → map_of.get (map_of.remove m.values n) q ≡ Some y → y.format < 16 =
      λ q y e. grind (arith, get_of_remove m.values n q, is.0.in_formats q y) in
      (assumption (in_formats, is.0), adds)

  -- removing a namespace adds its capacity to the total
  pub sound-remove : (x : Namespace) → map_of.get m.values n ≡ Some x
      → AddsUp (record m { values = map_of.remove m.values n }) fs cs
      (unallocated + x.capacity) tnvmcap
  sound-remove x e = sound-without (unallocated + x.capacity)
      (omega (arith, is.1, used-remove m.values n x e))

  -- removing nothing keeps the total
  pub sound-absent : map_of.get m.values n ≡ None
      → AddsUp (record m { values = map_of.remove m.values n }) fs cs unallocated tnvmcap
  sound-absent e = sound-without unallocated
      (omega (arith, is.1, ap used (remove_absent m.values n (ap is_some e))))

-- removing all namespaces makes the total TNVMCAP
pub sound-clear : (m : RangeMap Namespace) (fs : List Format) (cs : List Controller)
    (unallocated tnvmcap : ℕ) → AddsUp m fs cs unallocated tnvmcap
    → AddsUp (record m { values = map_of.empty }) fs cs tnvmcap tnvmcap
sound-clear m fs cs unallocated tnvmcap is =
    let in_formats : (q : ℕ) (y : Namespace) → map_of.get map_of.empty q ≡ Some y → y.format < 16 =
    λ q y e. absurd (cc (sym (get-empty nat_cmp q) ∙ e)) in
    (assumption (in_formats, is.0), omega (arith, used-empty))

-- the slots and the total stay right if the controllers keep their number and sizes
pub sound-controllers : (m : RangeMap Namespace) (fs : List Format) (old new : List Controller)
    (unallocated tnvmcap : ℕ) → AddsUp m fs old unallocated tnvmcap
    → length new ≡ length old → All (IsSized m.count) new → AddsUp m fs new unallocated tnvmcap
sound-controllers m fs old new unallocated tnvmcap is len sized =
    let few : length new ≤ 16 = omega (arith, is.0.few) in (assumption (few, sized, is.0), is.1)
