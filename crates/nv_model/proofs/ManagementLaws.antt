-- A create and a delete leave a well-formed subsystem well formed.
use Rattle.std.proofs.lemmas.Grind.{common_steps}
use Rattle.std.proofs.Common.{rules, ◌≡◌, ◌≢◌, ◌∙◌, ℕ, zero, suc, ◌+◌, ◌*◌, ◌-◌, ◌==◌, ◌<◌, ◌≤◌, ◌^◌, ◌||◌, ◌&&◌, Bool}
use Rattle.std.proofs.Common.{true, false, not, cond, List, [], ◌∷◌, length, Option, Some, None, is_some, bit_and}
use Rattle.std.proofs.Common.{nat_lt, refl, sym, ap, subst, arith, lit<}
use Rattle.std.specs.FinMap as map_of
use Rattle.std.specs.List.{find}
use Rattle.nv_bits.specs.Numbers.{NumberMap}
use Rattle.nv_layout.specs.declared.new_namespace.NewNamespace.{NewNamespace}
use Rattle.nv_model.specs.Management.{Attached, bytes_needed, capacity_refusal, create_rows, created, created_nsid}
use Rattle.nv_model.specs.Management.{delete_rows, deleted, format_index, is_extended, new_namespace, with_attached}
use Rattle.nv_model.specs.Management.{with_nsids, without, without_all, without_any, without_one}
use Rattle.nv_model.proofs.Words.{All, All-map, All-weaker, AllByRecursion, AreValues, contains-insert}
use Rattle.nv_model.proofs.Words.{contains-remove, Controller, count_by, first_refusal, Format, format_at, free_nsid}
use Rattle.nv_model.proofs.Words.{get-empty, get_of_insert, get_of_remove, is_allocated}
use Rattle.nv_model.proofs.Words.{is_refusal-refusal_by, IsController, IsInFormat, IsNamespace, IsRefusal, IsSomeAnd}
use Rattle.nv_model.proofs.Words.{IsWellFormed, length-map, may_extend, most_nsids, Namespace}
use Rattle.nv_model.proofs.Words.{Namespaces, nat_cmp, nat_tests}
use Rattle.nv_model.proofs.Words.{option_map_or, range_with_len, remove_absent, Row, State, unallocated, unwrap_or}
use Rattle.nv_model.proofs.Words.{used}
use Rattle.nv_model.proofs.FeatureLaws.{values-without, values-without_any}
use Rattle.nv_model.proofs.MappedLaws.{count_by-map_le, none_pass, pairs_map}
use Rattle.nv_model.proofs.UsedLaws.{used-empty, used-insert, used-remove}

-- ---- rows

-- if no row refuses, no row's condition holds
pub none_holds : (rows : List Row) → first_refusal rows ≡ None
    → AllByRecursion (λ r. r.when ≡ false) rows
none_holds [] e = tt
none_holds (r ∷ rows) e = let no : r.when ≡ false = grind (arith, e) in (no, none_holds rows (rw no at e))

-- the refusal for too little capacity is a refusal, whatever number of bytes it tells
capacity_refused : (bytes : ℕ) → IsRefusal (capacity_refusal bytes)
capacity_refused bytes = search rules

-- the condition on rows under which a refusal by one of them is a refusal
abbrev pub AllRefuse : List Row → Type 0
AllRefuse rows = AllByRecursion (λ row. IsRefusal row.refusal) rows

-- each row of a create has a refusal
pub create_rows_fit : (s : State) (w : NewNamespace) → AllRefuse (create_rows s w)
create_rows_fit s w = search (rules, is_refusal-refusal_by, capacity_refused) depth 12

-- each row of a delete has a refusal
pub delete_rows_fit : (s : State) (n : ℕ) → AllRefuse (delete_rows s n)
delete_rows_fit s n = search (rules, is_refusal-refusal_by)

-- ---- the least free NSID

-- the first number of a range that passes a test is in the range and passes it
first_of : (p : ℕ → Bool) (first count n : ℕ) → find p (range_with_len first count) ≡ Some n
    → ((first ≤ n) × (n < first + count)) × (p n ≡ true)
first_of p first zero n e = absurd (cc e)
first_of p first (suc count) n e = grind (arith, first_of p (first + 1) count n)

-- the free NSID is from 1 to NN, and no namespace has it
pub free_is : (s : State) (n : ℕ) → free_nsid s ≡ Some n
    → ((1 ≤ n) × (n ≤ s.nn)) × (is_allocated s n ≡ false)
free_is s n e = search (rules, first_of)

-- the NSID that a create returns is a number of 32 bits
pub created_nsid_fits : (s : State) → s.nn ≤ most_nsids → created_nsid s < 2 ^ 32
created_nsid_fits s h = by (free_nsid s) refl
  where
    by : (o : Option ℕ) → free_nsid s ≡ o → unwrap_or o 0 < 2 ^ 32
    by None e = lit< tt
    by (Some n) e = omega (arith, (free_is s n e).0.1)

-- ---- create

-- an optional namespace that isn't there is None
none_of : (o : Option Namespace) → is_some o ≡ false → o ≡ None
none_of o h = search rules

-- if metadata can be placed as asked and is to be at the end of logical blocks, there is some, and mc allows that
pub extends_by : (ms mc : ℕ) (e : Bool) → (not e || (nat_lt 0 ms && (bit_and mc 1 == 1))) ≡ true
    → e ≡ true
    → (0 < ms) × (bit_and mc 1 ≡ 1)
extends_by ms mc e h t = grind (arith, nat_tests)

-- a new namespace with at least one block, in a format that allows its metadata, is in that format
in_format : (mc bytes nsze format : ℕ) (extended shared : Bool) (o : Option Format)
    → not (option_map_or (λ f. may_extend mc f extended) o false) ≡ false → 0 < nsze
    → option_map_or (λ f. nsze * 2 ^ f.lbads) o 0 ≡ bytes → bytes ≤ 2 ^ 63 - 1
    → IsSomeAnd o (λ f. IsInFormat mc f
    (record { capacity = bytes; format = format; extended = extended; shared = shared }))
in_format mc bytes nsze format extended shared o h e f g = search rules

-- no controller has an NSID attached that has no namespace
none_attached : (s : State) (n : ℕ) → IsWellFormed s → is_allocated s n ≡ false
    → count_by (λ c. map_of.contains_key c.attached n) s.controllers ≡ 0
none_attached s n w free = search (rules, none_pass)

-- controllers of a subsystem are also ones of it with a namespace more, or with another one in its place
pub controllers_with : (ns : Namespaces) (n : ℕ) (x : Namespace) (cs : List Controller)
    → All (IsController ns) cs → All (IsController (map_of.insert ns n x)) cs
controllers_with ns n x cs all =
    All-weaker (IsController ns) (IsController (map_of.insert ns n x))
    (λ c is.
    let there : (q : ℕ) → map_of.contains_key c.attached q ≡ true
    → map_of.contains_key (map_of.insert ns n x) q ≡ true
    = λ q t. grind (arith, contains-insert ns n x q, is.attached q t) in
    assumption) cs all

-- a namespace that fits a well-formed subsystem, and leaves its capacities within the total, may get an NSID
pub inserted_keeps : (s : State) (n : ℕ) (x : Namespace) → IsWellFormed s
    → IsNamespace (record s { namespaces = map_of.insert s.namespaces n x }) n x
    → used (map_of.insert s.namespaces n x) ≤ s.tnvmcap
    → IsWellFormed (record s { namespaces = map_of.insert s.namespaces n x })
inserted_keeps s n x well is few = record {
  keys = well.keys;
  format_count = well.format_count;
  formats = well.formats;
  controller_count = well.controller_count;
  controllers = controllers_with s.namespaces n x s.controllers well.controllers;
  cntlids = well.cntlids;
  namespaces = λ q y at. named q y (q == n) refl (sym (get_of_insert s.namespaces n x q) ∙ at);
  capacities = few;
}
  where
    named : (q : ℕ) (y : Namespace) (t : Bool) → (q == n) ≡ t
        → cond t (Some x) (map_of.get s.namespaces q) ≡ Some y
        → IsNamespace (record s { namespaces = map_of.insert s.namespaces n x }) q y
    named q y true t at =
        let here : n ≡ q = grind (arith, nat_tests) in
        let same : x ≡ y = cc at in
        let to = record s { namespaces = map_of.insert s.namespaces n x } in
        subst (λ m. IsNamespace to m y) here (subst (IsNamespace to n) same is)
    named q y false t at = assumption (well.namespaces q y at)

-- a create with a free NSID or with none, if no row refuses it, leaves the subsystem well formed
create_by : (s : State) (w : NewNamespace) (o : Option ℕ) → free_nsid s ≡ o → IsWellFormed s
    → first_refusal (create_rows s w) ≡ None
    → IsWellFormed (option_map_or
    (λ n. record s { namespaces = map_of.insert s.namespaces n (new_namespace s w) }) o s)
create_by s w None e well accepted = well
create_by s w (Some n) e well accepted =
    let free = free_is s n e in
    let rows = none_holds (create_rows s w) accepted in
    let x = new_namespace s w in
    let fits = room rows.1.1.1.1.1.1.1.0 in
    inserted_keeps s n x well (record {
      nsid = (omega (arith, free.0.0), omega (arith, free.0.1));
      format = in_format s.mc (bytes_needed s w) w.nsze (bit_and w.flbas 0xf) (is_extended w.flbas) x.shared
          (format_at s (format_index w.flbas)) rows.0 (blocks rows.1.1.0) refl (omega (arith, fits, well.keys.tnvmcap));
      private = λ p. omega (arith, none_attached s n well free.1);
    })
    (omega (arith, fits, used-insert s.namespaces n x (none_of (map_of.get s.namespaces n) free.1), well.capacities))
  where
    room : nat_lt (unallocated s) (bytes_needed s w) ≡ false → bytes_needed s w ≤ unallocated s
    room h = grind (arith, nat_tests)

    blocks : (w.nsze == 0) ≡ false → 0 < w.nsze
    blocks h = grind (arith, nat_tests)

-- a create that isn't refused leaves a well-formed subsystem well formed
pub create_keeps : (s : State) (w : NewNamespace) → IsWellFormed s
    → first_refusal (create_rows s w) ≡ None → IsWellFormed (created s w)
create_keeps s w well accepted = create_by s w (free_nsid s) refl well accepted

-- ---- delete

-- the other attachments, of namespaces that exist
pub record AreAttached (s : State) (change : Controller → Attached) (to : Namespaces) : Type 0 where
  pub allocated : (x : Controller) → IsController s.namespaces x → (n : ℕ)
      → map_of.contains_key (change x).nsids n ≡ true → map_of.contains_key to n ≡ true
  pub values : (x : Controller) → IsController s.namespaces x
      → AreValues x.rules x.identity.numbers.vwc (change x).nsids (change x).values
  pub namespaces : (n : ℕ) (x : Namespace) → map_of.get to n ≡ Some x
      → IsNamespace (record (with_attached s change) { namespaces = to }) n x
  pub capacities : used to ≤ s.tnvmcap

-- a change of what is attached that AreAttached allows leaves the subsystem well formed
pub attached_keep : (s : State) (change : Controller → Attached) (to : Namespaces) → IsWellFormed s
    → AreAttached s change to → IsWellFormed (record (with_attached s change) { namespaces = to })
attached_keep s change to w are = assumption (
  subst (λ n. (1 ≤ n) × (n ≤ 16)) (sym (length-map s.controllers (with_nsids change))) w.controller_count,
  All-map (IsController to) (with_nsids change) s.controllers
      (All-weaker (IsController s.namespaces) (λ x. IsController to (with_nsids change x))
      (λ x is. assumption (are.allocated x is, are.values x is)) s.controllers w.controllers),
  pairs_map (λ x y. x.identity.cntlid ≢ y.identity.cntlid) (with_nsids change) s.controllers w.cntlids,
)

-- a number that is left after a removal was there before, and is another one
pub left : {A : Type 0} (m : NumberMap A) (n q : ℕ) → map_of.contains_key (map_of.remove m n) q
    ≡ true → ((q == n) ≡ false) × (map_of.contains_key m q ≡ true)
left m n q t = let is = contains-remove m n q in (grind (arith, is, t), grind (arith, is, t))

-- removing a namespace uses no more capacity than before
used-remove_le : (m : Namespaces) (n : ℕ) (o : Option Namespace) → map_of.get m n ≡ o
    → used (map_of.remove m n) ≤ used m
used-remove_le m n o h = search (rules, used, remove_absent, used-remove)

-- removing one namespace leaves the subsystem well formed
one_keeps : (s : State) (n : ℕ) → IsWellFormed s → IsWellFormed (without_one s n)
one_keeps s n w = attached_keep s (without n) (map_of.remove s.namespaces n) w
    (record {
      allocated = λ x is q t. let l = left x.attached n q t in contains-remove s.namespaces n q
          ∙ ap (λ b. cond b false (map_of.contains_key s.namespaces q)) l.0 ∙ is.attached q l.1;
      values = λ x is.
          values-without x.rules x.identity.numbers.vwc x.attached x.values is.values n;
      namespaces = λ q x e.
          let l = left s.namespaces n q (ap is_some e) in
          let old = w.namespaces q x (sym (ap (λ b. cond b None (map_of.get s.namespaces q)) l.0)
          ∙ sym (get_of_remove s.namespaces n q) ∙ e) in
          record {
            nsid = old.nsid;
            format = old.format;
            private = λ p. omega (
              arith,
              old.private p,
              count_by-map_le (λ (c : Controller). map_of.contains_key c.attached q)
                  (with_nsids (without n)) (λ c. map_of.contains_key c.attached q)
                  (λ c t. (left c.attached n q t).1) s.controllers,
            );
          };
      capacities = omega (
        arith,
        used-remove_le s.namespaces n (map_of.get s.namespaces n) refl,
        w.capacities,
      );
    })

-- removing all namespaces leaves the subsystem well formed
all_keep : (s : State) → IsWellFormed s → IsWellFormed (without_all s)
all_keep s w = attached_keep s without_any map_of.empty w (record {
  allocated = λ x is q t. let both : true ≡ false = sym t
      ∙ ap is_some (get-empty nat_cmp q) in absurd (cc both);
  values = λ x is. values-without_any x.rules x.identity.numbers.vwc x.attached x.values is.values
      (no_first x is (map_of.contains_key x.attached 0) refl);
  namespaces = λ q x e. let both : None ≡ Some x = sym (get-empty nat_cmp q)
      ∙ e in absurd (cc both);
  capacities = omega (arith, used-empty);
})
  where
    is_first : (o : Option Namespace) → map_of.get s.namespaces 0 ≡ o → is_some o ≡ true → ⊥
    is_first None e t = cc t
    is_first (Some x) e t = absurd (omega (arith, (w.namespaces 0 x e).nsid.0))

    -- NSIDs begin at 1
    no_first : (x : Controller) → IsController s.namespaces x → (b : Bool)
        → map_of.contains_key x.attached 0 ≡ b → b ≡ false
    no_first x is true e =
        absurd (is_first (map_of.get s.namespaces 0) refl (is.attached 0 e))
    no_first x is false e = refl

-- a delete leaves a well-formed subsystem well formed
pub delete_keeps : (s : State) (n : ℕ) → IsWellFormed s → IsWellFormed (deleted s n)
delete_keeps s n w = grind (arith, common_steps, all_keep s w, one_keeps s n w)

-- a create adds or removes no controller
pub created_controllers : (s : State) (w : NewNamespace) → length (created s w).controllers
    ≡ length s.controllers
created_controllers s w = search rules

-- a delete adds or removes no controller
pub deleted_controllers : (s : State) (n : ℕ) → length (deleted s n).controllers
    ≡ length s.controllers
deleted_controllers s n = search (rules, length-map)
