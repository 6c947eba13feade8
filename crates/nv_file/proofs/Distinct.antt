-- Keys that differ, as entries are added.
use Rattle.std.proofs.Common.{◌≡◌, ◌≢◌, ◌∙◌, ℕ, ◌<◌, false, ◌==◌, List, [], ◌∷◌, ◌++◌, length, get_or, map, sym, eq-eqb}
use Rattle.std.proofs.lemmas.List.Quantifiers.{all_pairs_push}
use Rattle.nv_file.specs.KeyChecks.{is_among}
use Rattle.nv_file.proofs.Words.{AllPairs, controller_entry_view, ControllerEntry, false≢true, FeatureRule, list_any}
use Rattle.nv_file.proofs.Words.{list_any-map, list_any_at, map_push, namespace_entry_view, NamespaceEntry}

-- if no element passes the test for the key n, none has the key n
none_is : {A : Type 0} (key : A → ℕ) (xs : List A) (n : ℕ) → list_any (λ y. key y == n) xs ≡ false
    → (k : ℕ) (d : A) → k < length xs → key (get_or xs k d) ≢ n
none_is key xs n h k d lt e =
    false≢true (sym h ∙ list_any_at (λ y. key y == n) xs k d lt (eq-eqb (key (get_or xs k d)) n e))

-- elements with different keys still differ with one more at the end, whose key none of them has
fresh_last : {A : Type 0} (key : A → ℕ) (xs : List A) (x : A) → AllPairs (λ a b. key a ≢ key b) xs
    → list_any (λ y. key y == key x) xs ≡ false → AllPairs (λ a b. key a ≢ key b) (xs ++ x ∷ [])
fresh_last key xs x pairs new = all_pairs_push (λ a b. key a ≢ key b) xs x pairs
    (λ k d lt. none_is key xs (key x) new k d lt)

-- rules of different features still differ with one more, whose feature none of them has
pub fresh_rule : (xs : List FeatureRule) (x : FeatureRule) → AllPairs (λ a b. a.fid ≢ b.fid) xs
    → is_among (map (λ r. r.fid) xs) x.fid ≡ false
    → AllPairs (λ a b. a.fid ≢ b.fid) (xs ++ x ∷ [])
unfolding is_among
fresh_rule xs x pairs new =
    fresh_last (λ r. r.fid) xs x pairs
    (sym (list_any-map (λ other. other == x.fid) (λ (r : FeatureRule). r.fid) xs) ∙ new)

-- the same for the values of entries in the code
fresh_view : {A B : Type 0} (view : A → B) (key : B → ℕ) (xs : List A) (x : A)
    → AllPairs (λ a b. key a ≢ key b) (map view xs)
    → is_among (map (λ a. key (view a)) xs) (key (view x)) ≡ false
    → AllPairs (λ a b. key a ≢ key b) (map view (xs ++ x ∷ []))
unfolding is_among
fresh_view view key xs x pairs new = rw (map_push view xs x)
    (fresh_last key (map view xs) (view x) pairs
    (list_any-map (λ b. key b == key (view x)) view xs
    ∙ sym (list_any-map (λ other. other == key (view x)) (λ a. key (view a)) xs) ∙ new))

-- controllers with different identifiers still differ with one more, whose identifier none of them has
pub fresh_controller : (xs : List ControllerEntry) (x : ControllerEntry)
    → AllPairs (λ a b. a.identity.cntlid ≢ b.identity.cntlid) (map controller_entry_view xs)
    → is_among (map (λ c. c.identity.cntlid) xs) x.identity.cntlid ≡ false
    → AllPairs (λ a b. a.identity.cntlid ≢ b.identity.cntlid)
    (map controller_entry_view (xs ++ x ∷ []))
fresh_controller = fresh_view controller_entry_view (λ c. c.identity.cntlid)

-- namespaces with different NSIDs still differ with one more, whose NSID none of them has
pub fresh_namespace : (xs : List NamespaceEntry) (x : NamespaceEntry)
    → AllPairs (λ a b. a.nsid ≢ b.nsid) (map namespace_entry_view xs)
    → is_among (map (λ n. n.nsid) xs) x.nsid ≡ false
    → AllPairs (λ a b. a.nsid ≢ b.nsid) (map namespace_entry_view (xs ++ x ∷ []))
fresh_namespace = fresh_view namespace_entry_view (λ n. n.nsid)
