-- A format leaves a well-formed subsystem well formed.
use Rattle.std.proofs.Common.{rules, ◌≡◌, ℕ, ◌-◌, ◌≤◌, ◌^◌, Bool, true, false, List, [], ◌∷◌, Option}
use Rattle.std.proofs.Common.{Some, None, nat_lt, refl, sym, subst, arith}
use Rattle.std.specs.FinMap as map_of
use Rattle.nv_command.specs.declared.format.NewFormat.{NewFormat}
use Rattle.nv_model.specs.Format.{format_rows, formatted, in_format, is_below}
use Rattle.nv_model.specs.inner.Format.{with_format}
use Rattle.nv_model.proofs.Words.{AllByRecursion, can_have, changed_at_keys, concerned, first_refusal, fold, Format}
use Rattle.nv_model.proofs.Words.{format_at, get_of_insert, is_refusal-refusal_by, IsInFormat, IsSomeAnd}
use Rattle.nv_model.proofs.Words.{IsWellFormed, list_any, may_extend, Namespace, Namespaces, nat_cmp-IsAntisymmetric}
use Rattle.nv_model.proofs.Words.{nat_cmp_total, not-false, option_map_or, or_parts, slice_get, State}
use Rattle.nv_model.proofs.ChangedKeysLaws.{folded}
use Rattle.nv_model.proofs.ManagementLaws.{AllRefuse, extends_by, inserted_keeps, none_holds}
use Rattle.nv_model.proofs.UsedLaws.{used-change}

-- each row of a format has a refusal
pub format_rows_fit : (s : State) (c : ℕ) (f : NewFormat) → AllRefuse (format_rows s c f)
format_rows_fit s c f = search (rules, is_refusal-refusal_by)

-- a capacity below a size
abbrev below : ℕ → Option Namespace → Bool
below size o = option_map_or (λ x. nat_lt x.capacity size) o false

-- ---- one namespace

module _ (format : Format) (lbaf : ℕ) (mset : Bool) where
  -- a namespace in the new format
  abbrev as_format : Namespace → Namespace
  as_format x = in_format lbaf mset x

  -- the subsystem with one namespace in the format
  abbrev with_one : State → ℕ → State
  with_one s n = record s { namespaces = with_format lbaf mset s.namespaces n }

  -- the condition under which it can have the format
  pub record CanHave (s : State) : Type 0 where
    pub found : slice_get s.formats lbaf ≡ Some format
    pub extends : may_extend s.mc format mset ≡ true

  -- a namespace whose capacity isn't below the size of a logical block has room for one
  size_of : (s : State) (n : ℕ) (x : Namespace) → map_of.get s.namespaces n ≡ Some x
      → is_below s (2 ^ format.lbads) n ≡ false → 2 ^ format.lbads ≤ x.capacity
  size_of s n x found room = search rules

  -- a namespace in a format has a capacity of at most 2 ^ 63 - 1 bytes
  few : (mc : ℕ) (x : Namespace) (o : Option Format) → IsSomeAnd o (λ f. IsInFormat mc f x)
      → x.capacity ≤ 2 ^ 63 - 1
  few mc x o h = search rules

  -- bringing a namespace with room for a logical block into the format leaves the subsystem well formed
  one_keeps : (s : State) (n : ℕ) (o : Option Namespace) → map_of.get s.namespaces n ≡ o
      → CanHave s → is_below s (2 ^ format.lbads) n ≡ false → IsWellFormed s
      → IsWellFormed (record s {
        namespaces = option_map_or (λ x. map_of.insert s.namespaces n (as_format x)) o s.namespaces;
      })
  one_keeps s n None at can room w = w
  one_keeps s n (Some x) at can room w =
      let old = w.namespaces n x at in
      let fits : IsInFormat s.mc format (as_format x) = record {
        capacity = (size_of s n x at room, few s.mc x (slice_get s.formats x.format) old.format);
        extended = extends_by format.ms s.mc mset can.extends;
      } in
      inserted_keeps s n (as_format x) w (record {
        nsid = old.nsid;
        format = subst (λ o. IsSomeAnd o (λ f. IsInFormat s.mc f (as_format x))) (sym can.found) fits;
        private = old.private;
      })
      (omega (arith, used-change s.namespaces n x (as_format x) at refl, w.capacities))

  -- ---- one after another

  -- a namespace with room for a size still has it when another one or itself gets a format
  room_stays : (s : State) (n q size : ℕ) → is_below s size q ≡ false
      → is_below (with_one s n) size q ≡ false
  room_stays s n q size room = search (rules, get_of_insert)

  -- bringing several namespaces with such room into the format leaves the subsystem well formed
  all_keep : (ns : List ℕ) (s : State) → CanHave s
      → AllByRecursion (λ n. is_below s (2 ^ format.lbads) n ≡ false) ns → IsWellFormed s
      → IsWellFormed (record s { namespaces = fold (with_format lbaf mset) s.namespaces ns })
  all_keep [] s can room w = w
  all_keep (n ∷ ns) s can room w =
      all_keep ns (with_one s n) (record { found = can.found; extends = can.extends })
      (rooms ns room.1) (one_keeps s n (map_of.get s.namespaces n) refl can room.0 w)
    where
      rooms : (ns : List ℕ) → AllByRecursion (λ n. is_below s (2 ^ format.lbads) n ≡ false) ns
          → AllByRecursion (λ q. is_below (with_one s n) (2 ^ format.lbads) q ≡ false) ns
      rooms [] h = tt
      rooms (q ∷ qs) h = (room_stays s n q (2 ^ format.lbads) h.0, rooms qs h.1)

-- if no number of a list passes a test, each number fails it
none_passes : (p : ℕ → Bool) (ns : List ℕ) → list_any p ns ≡ false
    → AllByRecursion (λ n. p n ≡ false) ns
none_passes p [] h = tt
none_passes p (n ∷ ns) h = let parts = or_parts (p n) _ h in (parts.0, none_passes p ns parts.1)

-- ---- a format

-- bringing one namespace after another into a format changes the values of their NSIDs
pub formatted_each : (lbaf : ℕ) (mset : Bool) (ns : List ℕ) (m : Namespaces)
    → fold (with_format lbaf mset) m ns ≡ changed_at_keys ns (in_format lbaf mset) m
formatted_each lbaf mset ns m = search (rules, folded, nat_cmp_total, nat_cmp-IsAntisymmetric)

-- a format that the subsystem can have, and for which no namespace is too small, leaves it well formed
format_by : (s : State) (ns : List ℕ) (f : NewFormat) (o : Option Format)
    → slice_get s.formats f.lbaf ≡ o
    → option_map_or (λ format. may_extend s.mc format f.mset) o false ≡ true
    → option_map_or (λ format. list_any (is_below s (2 ^ format.lbads)) ns) o false ≡ false
    → IsWellFormed s
    → IsWellFormed
    (record s { namespaces = changed_at_keys ns (in_format f.lbaf f.mset) s.namespaces })
format_by s ns f None at can room w = absurd (cc can)
format_by s ns f (Some format) at can room w =
    subst (λ m. IsWellFormed (record s { namespaces = m }))
    (formatted_each f.lbaf f.mset ns s.namespaces)
    (all_keep format f.lbaf f.mset ns s (record { found = at; extends = can })
    (none_passes (is_below s (2 ^ format.lbads)) ns room) w)

-- a format that isn't refused leaves a well-formed subsystem well formed
pub format_keeps : (s : State) (c : ℕ) (f : NewFormat) → IsWellFormed s
    → first_refusal (format_rows s c f) ≡ None → IsWellFormed (formatted s c f)
format_keeps s c f w accepted =
    let rows = none_holds (format_rows s c f) accepted in
    format_by s (concerned s c f.nsid) f (format_at s f.lbaf) refl
    (not-false (can_have s f.lbaf f.mset) rows.1.1.0) rows.1.1.1.1.0 w
