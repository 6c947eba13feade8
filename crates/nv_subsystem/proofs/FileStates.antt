-- The subsystem of a file is well formed.
use Rattle.std.proofs.Common.{◌≡◌, ◌≢◌, ◌∙◌, ℕ, zero, suc, ◌≤◌, ◌==◌, ◌||◌, ℤ, pos, Bool, true, false, cond, List, []}
use Rattle.std.proofs.Common.{◌∷◌, length, get_or, Option, Some, None, is_some, eqb-true, refl, sym, ap, subst, arith}
use Rattle.std.proofs.Common.{int_eq}
use Rattle.std.specs.FinMap as map_of
use Rattle.nv_subsystem.proofs.Words.{All, All-map, All-weaker, AllPairs, controller_of, ControllerValue, count_by}
use Rattle.nv_subsystem.proofs.Words.{Decides-int_eq, FileValue, fold, get-empty, get_of_insert}
use Rattle.nv_subsystem.proofs.Words.{is_attached_to, IsAttached, IsController, IsControllerEntry, IsFile, IsNamespace}
use Rattle.nv_subsystem.proofs.Words.{IsNamespaceEntry, IsWellFormed, length-map, list_any, Namespace, Namespaces}
use Rattle.nv_subsystem.proofs.Words.{NamespaceValue, nat_cmp, ne_eqb, none_pass, Nsids, pairs_map, rules_of}
use Rattle.nv_subsystem.proofs.Words.{state_of, sum_by-cons, untrue, used-empty, with_attachment, with_namespace}
use Rattle.nv_subsystem.proofs.FileFeatures.{are_rules, attached_values, start_values}
use Rattle.nv_subsystem.proofs.Capacities.{used-all}

-- the namespace of a file with an NSID
entry_at : List NamespaceValue → ℕ → Option NamespaceValue
entry_at [] q = None
entry_at (n ∷ ns) q = cond (q == n.nsid) (Some n) (entry_at ns q)

-- no two namespaces have the same NSID
Distinct : List NamespaceValue → Type 0
Distinct ns = AllPairs (λ a b. a.nsid ≢ b.nsid) ns

-- the namespace of an entry, or else another one
abbrev or_else : Option NamespaceValue → Option Namespace → Option Namespace
or_else None o = o
or_else (Some e) o = Some e.namespace

-- whether there is an entry that passes the test
abbrev says : (NamespaceValue → Bool) → Option NamespaceValue → Bool
says p None = false
says p (Some e) = p e

-- an NSID that no namespace of the file has is found nowhere
absent : (ns : List NamespaceValue) (q : ℕ) → All (λ n. q ≢ n.nsid) ns → entry_at ns q ≡ None
unfolding entry_at
absent [] q h = refl
absent (n ∷ ns) q h = rw (ne_eqb q n.nsid (h zero n (omega arith))) (absent ns q (λ k d b. h (suc k) d (omega arith)))

-- if no two namespaces have the same NSID, no two of the later ones have
later : (n : NamespaceValue) (ns : List NamespaceValue) → Distinct (n ∷ ns) → Distinct ns
unfolding Distinct
later n ns h = λ i j d a b. h (suc i) (suc j) d (omega arith) (omega arith)

-- if no two namespaces have the same NSID, no later one has the NSID of the first
alone : (n : NamespaceValue) (ns : List NamespaceValue) (q : ℕ) → Distinct (n ∷ ns)
    → (q == n.nsid) ≡ true → entry_at ns q ≡ None
unfolding Distinct
alone n ns q h e = absent ns q (λ k d b. subst (λ m. m ≢ (get_or ns k d).nsid)
    (sym (eqb-true q n.nsid e)) (h zero (suc k) d (omega arith) (omega arith)))

-- adding the first namespace to the map, and then the others, finds what looking through all of them finds
found_at : (m : Namespaces) (n : NamespaceValue) (ns : List NamespaceValue) (q : ℕ) → Distinct (n ∷ ns)
    → or_else (entry_at ns q) (map_of.get (with_namespace m n) q)
    ≡ or_else (cond (q == n.nsid) (Some n) (entry_at ns q)) (map_of.get m q)
found_at m n ns q d = grind (arith, get_of_insert m n.nsid n.namespace q, alone n ns q d)

-- the map has for an NSID the namespace of the file with it, or else what it had
found : (m : Namespaces) (ns : List NamespaceValue) (q : ℕ) → Distinct ns
    → map_of.get (fold with_namespace m ns) q ≡ or_else (entry_at ns q) (map_of.get m q)
unfolding entry_at
found m [] q d = refl
found m (n ∷ ns) q d =
    found (with_namespace m n) ns q (later n ns d)
    ∙ found_at m n ns q d

-- the first namespace and the later ones attach an NSID to a controller if the one with the NSID does
marked_at : (m : Nsids) (n : NamespaceValue) (ns : List NamespaceValue) (cntlid q : ℕ) → Distinct (n ∷ ns)
    → (says (is_attached_to cntlid) (entry_at ns q) || map_of.contains_key (with_attachment cntlid m n) q)
    ≡ (says (is_attached_to cntlid) (cond (q == n.nsid) (Some n) (entry_at ns q)) || map_of.contains_key m q)
marked_at m n ns cntlid q d = grind (arith, get_of_insert m n.nsid tt q, alone n ns q d)

-- a controller has an NSID attached if the namespace of the file with it says so, or if it had it
marked : (m : Nsids) (ns : List NamespaceValue) (cntlid q : ℕ) → Distinct ns
    → map_of.contains_key (fold (with_attachment cntlid) m ns) q ≡
    (says (is_attached_to cntlid) (entry_at ns q) || map_of.contains_key m q)
unfolding entry_at
marked m [] cntlid q d = refl
marked m (n ∷ ns) cntlid q d =
    marked (with_attachment cntlid m n) ns cntlid q (later n ns d) ∙ marked_at m n ns cntlid q d

-- what holds for each namespace of the file holds for the one with an NSID, whose NSID it is
at_nsid : (P : NamespaceValue → Type 0) (ns : List NamespaceValue) (q : ℕ) (e : NamespaceValue)
    → All P ns → entry_at ns q ≡ Some e → P e × (e.nsid ≡ q)
unfolding entry_at
at_nsid P [] q e all is = absurd (cc is)
at_nsid P (n ∷ ns) q e all is = at_test (q == n.nsid) refl is (at_nsid P ns q e (λ k d b. all (suc k) d (omega arith)))
  where
    at_test : (t : Bool) → (q == n.nsid) ≡ t → ◌≡◌ {A = Option NamespaceValue}
        (cond t (Some n) (entry_at ns q)) (Some e) → (entry_at ns q ≡ Some e → P e × (e.nsid ≡ q))
        → P e × (e.nsid ≡ q)
    at_test true h w rest = let same : n ≡ e = cc w
        in subst (λ x. P x × (x.nsid ≡ q)) same (all zero n (omega arith), sym (eqb-true q n.nsid h))
    at_test false h w rest = rest w

-- an attachment list of at most one number names at most one controller
one_number : (zs : List ℤ) (a b : ℕ) → length zs ≤ 1 → list_any (λ z. int_eq z (pos a)) zs ≡ true
    → list_any (λ z. int_eq z (pos b)) zs ≡ true → a ≡ b
one_number [] a b h i j = absurd (cc i)
one_number (z ∷ []) a b h i j = same (sym (is_number z a i) ∙ is_number z b j)
  where
    is_number : (z : ℤ) (a : ℕ) → list_any (λ z. int_eq z (pos a)) (z ∷ []) ≡ true → z ≡ pos a
    is_number z a i = (Decides-int_eq z (pos a)).0 (grind (arith, i))

    same : pos a ≡ pos b → a ≡ b
    same e = cc e
one_number (z ∷ y ∷ zs) a b h i j = absurd (omega arith)

-- ---- at most one of them

-- if no two elements both pass a test, at most one element passes it
one_passes : {X : Type 0} (p : X → Bool) (xs : List X)
    → AllPairs (λ x y. p x ≡ true → p y ≡ true → ⊥) xs → count_by p xs ≤ 1
one_passes p [] h = omega arith
one_passes p (x ∷ xs) h = at_test (p x) refl (one_passes p xs
    (λ i j d a b. h (suc i) (suc j) d (omega arith) (omega arith)))
  where
    at_test : (t : Bool) → p x ≡ t → count_by p xs ≤ 1 → count_by p (x ∷ xs) ≤ 1
    at_test true e rest =
        let none = none_pass p xs (λ k d b. untrue (p (get_or xs k d))
        (h zero (suc k) d (omega arith) (omega arith) e)) in
        let one : ◌≡◌ {A = ℕ} (cond (p x) 1 0) 1 = ap (λ b. cond b 1 0) e in
        omega (arith, sum_by-cons (λ x. cond (p x) 1 0) x xs, none, one)
    at_test false e rest =
        let one : ◌≡◌ {A = ℕ} (cond (p x) 1 0) 0 = ap (λ b. cond b 1 0) e in
        omega (arith, sum_by-cons (λ x. cond (p x) 1 0) x xs, rest, one)

-- ---- the state

-- the map of a file's namespaces has for an NSID the namespace of the file with it
namespaces_of : (ns : List NamespaceValue) (q : ℕ) → AllPairs (λ a b. a.nsid ≢ b.nsid) ns
    → map_of.get (fold with_namespace map_of.empty ns) q ≡ or_else (entry_at ns q) None
unfolding Distinct
namespaces_of ns q d = found map_of.empty ns q d ∙ ap (or_else (entry_at ns q)) (get-empty nat_cmp q)

-- a controller of the state has an NSID attached if the namespace of the file with it says so
attached_of : (ns : List NamespaceValue) (cntlid q : ℕ) → AllPairs (λ a b. a.nsid ≢ b.nsid) ns
    → map_of.contains_key (fold (with_attachment cntlid) map_of.empty ns) q ≡ says
    (is_attached_to cntlid) (entry_at ns q)
unfolding Distinct
attached_of ns cntlid q d = marked map_of.empty ns cntlid q d
    ∙ ap (λ o. says (is_attached_to cntlid) (entry_at ns q) || is_some o) (get-empty nat_cmp q)
    ∙ grind arith

-- an NSID whose entry passes a test has a namespace
only_allocated : (o : Option NamespaceValue) (p : NamespaceValue → Bool) → says p o ≡ true
    → is_some (or_else o None) ≡ true
only_allocated None p h = absurd (cc h)
only_allocated (Some e) p h = refl

-- each controller of the state is one that IsController allows
controller_ok : (f : FileValue) → IsFile f → (c : ControllerValue) → IsControllerEntry c
    → IsController (state_of f).namespaces (controller_of f.namespaces c)
controller_ok f h c is = record {
  identity = is.identity;
  rules = are_rules c.rules is.rules;
  smart = is.smart;
  log = omega arith;
  entries = λ k d b. absurd (omega arith);
  refusals = omega arith;
  commands = omega arith;
  attached = λ n t.
      ap is_some (namespaces_of f.namespaces n h.nsids)
      ∙ only_allocated (entry_at f.namespaces n) (is_attached_to c.identity.cntlid)
      (sym (attached_of f.namespaces c.identity.cntlid n h.nsids) ∙ t);
  values = attached_values (rules_of c.rules) c.identity.numbers.vwc c.identity.cntlid
      (are_rules c.rules is.rules) f.namespaces map_of.empty _
      (start_values (rules_of c.rules) c.identity.numbers.vwc (are_rules c.rules is.rules));
}

-- each namespace of the state is one that IsNamespace allows
namespace_ok : (f : FileValue) → IsFile f → (n : ℕ) (x : Namespace) (o : Option NamespaceValue)
    → entry_at f.namespaces n ≡ o → or_else o None ≡ Some x → IsNamespace (state_of f) n x
namespace_ok f h n x None e is = absurd (cc is)
namespace_ok f h n x (Some v) e is =
    let same : v.namespace ≡ x = cc is in
    let fine = at_nsid (IsNamespaceEntry f.nn f.mc f.formats) f.namespaces n v h.namespaces e in
    let attached = at_nsid (IsAttached f.controllers) f.namespaces n v h.attachments e in
    subst (IsNamespace (state_of f) n) same (record {
      nsid = (omega (arith, fine.0.nsid.0, fine.1), omega (arith, fine.0.nsid.1, fine.1));
      format = fine.0.format;
      private = λ p. one_passes (λ c. map_of.contains_key c.attached n) (state_of f).controllers (λ i j d a b s t.
          pairs_map (λ x y. x.identity.cntlid ≢ y.identity.cntlid) (controller_of f.namespaces)
          f.controllers h.cntlids i j d a b
          (one_number v.controllers (get_or (state_of f).controllers i d).identity.cntlid
          (get_or (state_of f).controllers j d).identity.cntlid (attached.0.private p)
          (named i d (omega arith) s) (named j d b t)));
    })
  where
    named : All (λ y. map_of.contains_key y.attached n ≡ true
        → is_attached_to y.identity.cntlid v ≡ true) (state_of f).controllers
    named = All-map (λ y. map_of.contains_key y.attached n ≡ true
        → is_attached_to y.identity.cntlid v ≡ true) (controller_of f.namespaces) f.controllers
        (λ k d b t. sym (attached_of f.namespaces (get_or f.controllers k d).identity.cntlid n
        h.nsids ∙ ap (says (is_attached_to (get_or f.controllers k d).identity.cntlid)) e) ∙ t)

-- the state of a valid file is well formed
pub state_ok : (f : FileValue) → IsFile f → IsWellFormed (state_of f)
state_ok f h = record {
  keys = h.keys;
  format_count = h.format_count;
  formats = h.formats;
  controller_count = subst (λ n. (1 ≤ n) × (n ≤ 16))
      (sym (length-map f.controllers (controller_of f.namespaces))) h.controller_count;
  controllers = All-map (IsController (state_of f).namespaces) (controller_of f.namespaces)
      f.controllers (All-weaker IsControllerEntry (λ c. IsController (state_of f).namespaces
      (controller_of f.namespaces c)) (controller_ok f h) f.controllers h.controllers);
  cntlids = pairs_map (λ x y. x.identity.cntlid ≢ y.identity.cntlid) (controller_of f.namespaces)
      f.controllers h.cntlids;
  namespaces = λ n x e. namespace_ok f h n x (entry_at f.namespaces n) refl
      (sym (namespaces_of f.namespaces n h.nsids) ∙ e);
  capacities = omega (
    arith,
    used-all map_of.empty f.namespaces h.nsids
        (λ k d b. get-empty nat_cmp (get_or f.namespaces k d).nsid),
    used-empty,
    h.capacities,
  );
}
