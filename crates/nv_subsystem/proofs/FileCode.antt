-- The parts of the subsystem that are made from a file.
use Rattle.std.proofs.Common.{◌≡◌, ◌∙◌, ℕ, ◌+◌, ◌<◌, ◌≤◌, List, map, length, get_or, Some, sym, ap, subst, arith}
use Rattle.std.specs.FinMap as map_of
use Rattle.nv_subsystem.specs.declared.controller.Controller.{Controller}
use Rattle.nv_file.specs.declared.file.File.{File}
use Rattle.nv_file.specs.declared.namespace.NamespaceEntry.{NamespaceEntry}
use Rattle.nv_file.proofs.Fused.{capacities}
use Rattle.nv_model.proofs.InFormatLaws.{format_below}
use Rattle.nv_layout.specs.Limits.{most_nsids}
use Rattle.nv_subsystem.proofs.Words.{All, All-weaker, controller_entry_view, controller_of, controller_view, file_view}
use Rattle.nv_subsystem.proofs.Words.{get-empty, get_or-map, IsControllerEntry, IsFeatureRule, IsFile, IsFormat}
use Rattle.nv_subsystem.proofs.Words.{IsNamespaceEntry, IsOf, IsSized, IsSound, length-map, Namespace}
use Rattle.nv_subsystem.proofs.Words.{namespace_entry_view, nat_cmp, RangeMap, state_of, sum_by, used, used-empty}
use Rattle.nv_subsystem.proofs.Capacities.{used-all}
use Rattle.nv_subsystem.proofs.FileStates.{state_ok}

-- what holds of the value of each element holds of each element, by its value
of_each : {X Y : Type 0} (view : X → Y) (P : Y → Type 0) (xs : List X) → All P (map view xs) → All (λ x. P (view x)) xs
of_each view P xs all k d b =
    subst P (get_or-map view xs k d (view d) b) (all k (view d) (omega (arith, length-map xs view)))

-- the NSIDs of a file's namespaces are from 1 to NN
pub nsids_within : (f : File) → IsFile (file_view f) → (k : ℕ) (d : NamespaceEntry)
    → k < length f.namespaces.items → IsOf 1 f.nn (get_or f.namespaces.items k d).nsid
nsids_within f h k d b =
    let valid = IsNamespaceEntry f.nn f.mc f.formats.items in
    let within = (of_each namespace_entry_view valid f.namespaces.items h.namespaces k d b).nsid in
    (within.0, omega (arith, within.1))

-- the rules of a file's features are in range
pub rules_within : (f : File) → IsFile (file_view f)
    → All (λ e. All IsFeatureRule e.rules.items) f.controllers.items
rules_within f h k d b = (of_each controller_entry_view IsControllerEntry f.controllers.items h.controllers k d b).rules

-- MDTS of each controller of a file is at most 8
pub mdts_within : (f : File) → IsFile (file_view f)
    → All (λ e. e.identity.numbers.mdts ≤ 8) f.controllers.items
mdts_within f h k d b =
    (of_each controller_entry_view IsControllerEntry f.controllers.items h.controllers k d b).identity.numbers.mdts.1

-- the slots, formats and controllers that are made from a file are sound
pub is_sound : (f : File) (slots : RangeMap Namespace) (cs : List Controller) → IsFile (file_view f)
    → slots ≡ record { first = 1; count = f.nn; values = (state_of (file_view f)).namespaces }
    → map controller_view cs ≡ map (controller_of (map namespace_entry_view f.namespaces.items))
    (map controller_entry_view f.controllers.items)
    → All (IsSized f.nn) cs → IsSound slots f.formats.items cs
is_sound f slots cs h is views sized =
    let ok = state_ok (file_view f) h in
    let entries = map controller_entry_view f.controllers.items in
    let as_many : length cs ≡ length entries = sym (length-map cs controller_view) ∙ ap length views
    ∙ length-map entries (controller_of (map namespace_entry_view f.namespaces.items)) in
    record {
      first = ap (λ m. m.first) is;
      count = subst (λ (m : RangeMap Namespace). m.count ≤ most_nsids) (sym is) h.keys.nn.1;
      formats = h.format_count;
      block_sizes = All-weaker IsFormat (λ x. x.lbads ≤ 16)
          (λ x is. is.lbads.1) f.formats.items h.formats;
      in_formats = λ n x e.
          let at = ok.namespaces n x
          (subst (λ (m : RangeMap Namespace). map_of.get m.values n ≡ Some x) is e) in
          omega (arith, format_below f.mc x f.formats.items at.format, h.format_count.1);
      few = omega (arith, as_many, h.controller_count.1);
      controllers = subst (λ (m : RangeMap Namespace). All (IsSized m.count) cs) (sym is) sized;
    }

-- the namespaces of a file have no more capacity than there is
pub within_capacity : (f : File) → IsFile (file_view f)
    → sum_by (λ n. n.namespace.capacity) f.namespaces.items ≤ f.tnvmcap
within_capacity f h = omega (arith, h.capacities, capacities f.namespaces.items)

-- what the namespaces of a file leave of the capacity is the unallocated capacity
pub adds_up : (f : File) (left : ℕ) → IsFile (file_view f)
    → left + sum_by (λ n. n.namespace.capacity) f.namespaces.items ≡ f.tnvmcap
    → left + used (state_of (file_view f)).namespaces ≡ f.tnvmcap
adds_up f left h e =
    omega (
      arith,
      e,
      capacities f.namespaces.items,
      used-empty,
      used-all map_of.empty (file_view f).namespaces h.nsids
          (λ k d b. get-empty nat_cmp (get_or (file_view f).namespaces k d).nsid),
    )
