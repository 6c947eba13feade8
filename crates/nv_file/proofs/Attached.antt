-- What the test of the attachments means.
use Rattle.std.proofs.Common.{◌≡◌, ◌≢◌, ℕ, ◌≤◌, ℤ, pos, Bool, true, false, not, ◌&&◌, ◌||◌, List, [], ◌∷◌, length}
use Rattle.std.proofs.Common.{get_or, int_eq, nat_le, sym, ◌∙◌, arith}
use Rattle.std.proofs.lemmas.Bool.Decides.{Decides-int_eq}
use Rattle.std.proofs.lemmas.List.Kept.{AllPairs-cons}
use Rattle.std.proofs.lemmas.List.Sums.{AllPass-from_list_all}
use Rattle.nv_file.specs.File.{may_attach, is_cntlid, differ, attaches}
use Rattle.nv_file.proofs.Words.{All, All-weaker, AllPairs, and_parts, Any, Any-from_list_any, ControllerValue}
use Rattle.nv_file.proofs.Words.{false≢true, IsAttached, leb-true, list_all, list_any, list_any_at, NamespaceValue}

-- if the test finds a controller with the identifier, one has it
named_one : (cs : List ControllerValue) (z : ℤ) → is_cntlid cs z ≡ true → Any (λ c. pos c.identity.cntlid ≡ z) cs
named_one cs z h =
    let found = Any-from_list_any (λ c. int_eq (pos c.identity.cntlid) z) cs h in
    (found.0, found.1, found.2, found.3, (Decides-int_eq (pos found.1.identity.cntlid) z).0 found.4)

-- if no number of a list passes the test of equality with z, none is z
none_is : (z : ℤ) (zs : List ℤ) → list_any (λ y. int_eq y z) zs ≡ false → All (λ y. z ≢ y) zs
none_is z zs h k d lt same =
    let found = list_any_at (λ y. int_eq y z) zs k d lt ((Decides-int_eq (get_or zs k d) z).1 (sym same)) in
    false≢true (sym h ∙ found)

-- if the negation of a truth value is true, it is false
not_true : (b : Bool) → not b ≡ true → b ≡ false
not_true b h = grind arith

-- numbers that pass the test for repeats differ in pairs
distinct : (zs : List ℤ) → differ zs ≡ true → AllPairs (λ y z. y ≢ z) zs
distinct [] h = λ i j d before below. absurd (omega arith)
distinct (z ∷ zs) h =
    let parts = and_parts (not (list_any (λ y. int_eq y z) zs)) (differ zs) h in
    AllPairs-cons (λ y z. y ≢ z) z zs (none_is z zs
    (not_true (list_any (λ y. int_eq y z) zs) parts.0)) (distinct zs parts.1)

-- a number that is at most 1 unless something is shared is at most 1 if it isn't shared
one_where_private : (shared : Bool) (n : ℕ) → (shared || nat_le n 1) ≡ true → shared ≡ false → n ≤ 1
one_where_private shared n h private = leb-true n 1 (grind (arith, h, private))

-- a namespace that passes the test of its attachments is attached as IsAttached says
is_attached : (cs : List ControllerValue) (n : NamespaceValue) → may_attach cs n ≡ true → IsAttached cs n
is_attached cs n h =
    let parts = and_parts (list_all (is_cntlid cs) n.controllers)
    (differ n.controllers && (n.namespace.shared || nat_le (length n.controllers) 1)) h in
    let more = and_parts (differ n.controllers) (n.namespace.shared || nat_le (length n.controllers) 1) parts.1 in
    record {
      known = All-weaker (λ z. is_cntlid cs z ≡ true) (λ z. Any (λ c. pos c.identity.cntlid ≡ z) cs)
          (named_one cs) n.controllers (AllPass-from_list_all (is_cntlid cs) n.controllers parts.0);
      distinct = distinct n.controllers more.0;
      private = one_where_private n.namespace.shared (length n.controllers) more.1;
    }

-- namespaces that all pass the test of their attachments are attached as IsAttached says
pub attached : (cs : List ControllerValue) (ns : List NamespaceValue) → attaches cs ns ≡ true → All (IsAttached cs) ns
unfolding attaches
attached cs ns h = All-weaker (λ n. may_attach cs n ≡ true) (IsAttached cs) (is_attached cs) ns
    (AllPass-from_list_all (may_attach cs) ns h)
