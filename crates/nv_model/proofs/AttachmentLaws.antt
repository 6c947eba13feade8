-- An attach and a detach leave a well-formed subsystem well formed.
use Rattle.std.proofs.Common.{rules, ◌≡◌, ◌∙◌, ℕ, ◌==◌, ◌≤◌, ◌||◌, ◌&&◌, Bool, true, false, not, cond, List, length}
use Rattle.std.proofs.Common.{Some, None, nat_lt, refl, sym, ap, arith}
use Rattle.std.specs.FinMap as map_of
use Rattle.nv_model.specs.Attachment.{attach_rows, attached, attachment_rows, detached, fewer, has_attached, is_listed}
use Rattle.nv_model.specs.Attachment.{is_private, more, unchanged, with_attachments, with_one}
use Rattle.nv_model.specs.Management.{with_attached, with_nsids}
use Rattle.nv_model.proofs.Words.{AllByRecursion, AreValues, contains-insert, Controller, count_by, first_refusal}
use Rattle.nv_model.proofs.Words.{if◌then◌else◌, is_allocated, IsController, IsWellFormed}
use Rattle.nv_model.proofs.Words.{length-map, Namespace, nat_tests, not-false, option_map_or, State}
use Rattle.nv_model.proofs.FeatureLaws.{values-with, values-without}
use Rattle.nv_model.proofs.ManagementLaws.{AllRefuse, attached_keep, left, none_holds}
use Rattle.nv_model.proofs.MappedLaws.{count_by-map, count_by-map_le}

-- ---- attach

-- after an attach, a listed controller also has NSID n, and every controller has the NSIDs that it had
has_more : (n : ℕ) (ids : List ℕ) (x : Controller) (q : ℕ)
    → map_of.contains_key (more n ids x).nsids q
    ≡ (cond (q == n) (is_listed ids x) false || map_of.contains_key x.attached q)
has_more n ids x q = search (rules, contains-insert)

-- a disjunction doesn't depend on the order of its parts
or_comm : (a b : Bool) → (a || b) ≡ (b || a)
or_comm a b = grind arith

-- an attach that isn't refused leaves a well-formed subsystem well formed
attach_keeps : (s : State) (n : ℕ) (ids : List ℕ) → IsWellFormed s
    → first_refusal (attach_rows s n ids) ≡ None → IsWellFormed (attached s n ids)
attach_keeps s n ids w accepted = attached_keep s (more n ids) s.namespaces w (record {
  allocated = λ x is q t.
      grind (arith, nat_tests, has_more n ids x q, t, is.attached q, not-false (is_allocated s n) rows.1.0);
  namespaces = λ q x e. let old = w.namespaces q x e in
      record { nsid = old.nsid; format = old.format; private = λ p. private q x e p (q == n) refl };
  values = λ x is. with_values x is (is_listed ids x);
  capacities = w.capacities;
})
  where
    rows : AllByRecursion (λ r. r.when ≡ false) (attach_rows s n ids)
    rows = none_holds (attach_rows s n ids) accepted

    with_values : (x : Controller) → IsController s.namespaces x → (b : Bool)
        → AreValues x.rules x.identity.numbers.vwc (if b then with_one n x else unchanged x).nsids
        (if b then with_one n x else unchanged x).values
    with_values x is true =
        values-with x.rules x.identity.numbers.vwc x.attached x.values is.values is.rules n
    with_values x is false = is.values

    few : (b c : Bool) → b ≡ true → (b && c) ≡ false → c ≡ false
    few b c h e = grind arith

    private : (q : ℕ) (x : Namespace) → map_of.get s.namespaces q ≡ Some x → x.shared ≡ false
        → (b : Bool) → (q == n) ≡ b
        → count_by (has_attached q) (with_attached s (more n ids)).controllers ≤ 1
    private q x e p true is =
        let same : q ≡ n = grind (arith, nat_tests) in
        let alone : is_private s n
        ≡ true = ap (λ o. option_map_or (λ (x : Namespace). not x.shared) o false)
        (sym (ap (map_of.get s.namespaces) same) ∙ e) ∙ ap not p in
        let one = few (is_private s n) _ alone rows.1.1.1.1.0 in
        let count = count_by-map (has_attached q) (with_nsids (more n ids)) (λ c. has_attached n c
        || is_listed ids c)
        (λ c. has_more n ids c q
        ∙ ap (λ b. cond b (is_listed ids c) false || map_of.contains_key c.attached q) is
        ∙ ap (λ m. is_listed ids c || map_of.contains_key c.attached m) same
        ∙ or_comm (is_listed ids c) (has_attached n c)) s.controllers in
        at_most (count_by (λ c. has_attached n c || is_listed ids c) s.controllers) _ count one
      where
        at_most : (k m : ℕ) → m ≡ k → nat_lt 1 k ≡ false → m ≤ 1
        at_most k m e h = grind (arith, nat_tests)
    private q x e p false is =
        let count = count_by-map (has_attached q) (with_nsids (more n ids)) (has_attached q)
        (λ c. has_more n ids c q
        ∙ ap (λ b. cond b (is_listed ids c) false || map_of.contains_key c.attached q) is)
        s.controllers in
        omega (arith, count, (w.namespaces q x e).private p)

-- ---- detach

-- an NSID that a controller has after a detach was attached to it before
kept : (n : ℕ) (ids : List ℕ) (x : Controller) (q : ℕ) → map_of.contains_key (fewer n ids x).nsids q
    ≡ true → map_of.contains_key x.attached q ≡ true
kept n ids x q = search (rules, left)

-- a detach leaves a well-formed subsystem well formed
detach_keeps : (s : State) (n : ℕ) (ids : List ℕ) → IsWellFormed s → IsWellFormed (detached s n ids)
detach_keeps s n ids w = attached_keep s (fewer n ids) s.namespaces w (record {
  allocated = λ x is q t. is.attached q (kept n ids x q t);
  namespaces = λ q x e.
      let old = w.namespaces q x e in
      record {
        nsid = old.nsid;
        format = old.format;
        private = λ p. omega (
          arith,
          old.private p,
          count_by-map_le (has_attached q) (with_nsids (fewer n ids)) (has_attached q)
              (λ c t. kept n ids c q t) s.controllers,
        );
      };
  values = λ x is. search (rules, values-without);
  capacities = w.capacities;
})

-- ---- both

-- each row of an attach or a detach has a refusal
pub attachment_rows_fit : (s : State) (n : ℕ) (detach : Bool) (ids : List ℕ)
    → AllRefuse (attachment_rows s n detach ids)
attachment_rows_fit s n detach ids = search rules

-- an attach or a detach that isn't refused leaves a well-formed subsystem well formed
pub attachment_keeps : (s : State) (n : ℕ) (detach : Bool) (ids : List ℕ) → IsWellFormed s
    → first_refusal (attachment_rows s n detach ids) ≡ None
    → IsWellFormed (with_attachments s n detach ids)
attachment_keeps s n true ids w accepted = detach_keeps s n ids w
attachment_keeps s n false ids w accepted = attach_keeps s n ids w accepted

-- an attach or a detach adds or removes no controller
pub attachment_controllers : (s : State) (n : ℕ) (detach : Bool) (ids : List ℕ)
    → length (with_attachments s n detach ids).controllers ≡ length s.controllers
attachment_controllers s n detach ids = search (rules, length-map)
