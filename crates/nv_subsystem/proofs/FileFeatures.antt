-- The rules and the values of features in a file.
use Rattle.std.proofs.Common.{◌≡◌, ◌∙◌, ℕ, zero, suc, ◌==◌, ◌&&◌, ◌||◌, Bool, true, false, not, cond, List, [], ◌∷◌}
use Rattle.std.proofs.Common.{eqb-true, Some, is_some, refl, sym, ap, subst, arith}
use Rattle.std.specs.FinMap as map_of
use Rattle.nv_model.specs.declared.feature_rule.FeatureRule.{FeatureRule}
use Rattle.nv_model.proofs.FeatureLaws.{AreSound, first_is_sound, has_inserted, sound-insert, values-with}
use Rattle.nv_model.proofs.ValueLaws.{by_numbers, is_key}
use Rattle.nv_subsystem.proofs.Words.{All, AreRules, AreValues, changed, defaults_of, Feature, feature_at}
use Rattle.nv_subsystem.proofs.Words.{feature_of, FeatureRules, features, FeatureValues, fill, find, first_value, fold}
use Rattle.nv_subsystem.proofs.Words.{get-empty, get_of_insert, if◌then◌else◌, is_attached_to, is_selector}
use Rattle.nv_subsystem.proofs.Words.{is_supported, IsFeatureRule, key_cmp, key_of, list_any, map, NamespaceValue}
use Rattle.nv_subsystem.proofs.Words.{nat_cmp, nat_tests, Nsids, option_map_or, recovery_key, row_of, rules_of}
use Rattle.nv_subsystem.proofs.Words.{ValueKey, with_attachment, with_default, with_recovery, with_rule}

-- ---- rules

-- rules with one more valid rule are rules
one_rule : (m : FeatureRules) (r : FeatureRule) → AreRules m → IsFeatureRule r → AreRules (with_rule m r)
one_rule m r are is fid q e = at_test (fid == r.fid) refl (sym (get_of_insert m r.fid r fid) ∙ e)
  where
    at_test : (b : Bool) → (fid == r.fid) ≡ b → cond b (Some r) (map_of.get m fid) ≡ Some q
        → IsFeatureRule q × (q.fid ≡ fid)
    at_test true h e = let same : r ≡ q = cc e in
        subst (λ t. IsFeatureRule t × (t.fid ≡ fid)) same (is, sym (eqb-true fid r.fid h))
    at_test false h e = are fid q e

-- rules with several more valid rules are rules
some_rules : (m : FeatureRules) (rs : List FeatureRule) → AreRules m → All IsFeatureRule rs
    → AreRules (fold with_rule m rs)
some_rules m [] are all = are
some_rules m (r ∷ rs) are all =
    some_rules (with_rule m r) rs (one_rule m r are (all zero r (omega arith)))
    (λ k d b. all (suc k) d (omega arith))

-- the rules of a file are rules
pub are_rules : (rs : List FeatureRule) → All IsFeatureRule rs → AreRules (rules_of rs)
are_rules rs all = some_rules map_of.empty rs
    (λ fid r e. absurd (cc (sym (get-empty nat_cmp fid) ∙ e))) all

-- ---- defaults

-- a supported feature without a value for each namespace
abbrev has_default : FeatureRules → ℕ → Feature → Bool
has_default rules vwc f = is_supported rules vwc f && not (row_of f).per_namespace

-- a key of such a feature
abbrev is_default : FeatureRules → ℕ → ValueKey → Feature → Bool
is_default rules vwc q f =
    has_default rules vwc f && list_any (λ s. is_key q (key_of f 0 s)) (row_of f).selectors

module _ (rules : FeatureRules) (vwc : ℕ) where
  -- after a feature's defaults are filled in under selectors, these keys have values, and so have the keys before
  filled : (f : Feature) (ss : List ℕ) (m : FeatureValues) (q : ValueKey)
      → map_of.contains_key (changed (fill rules) (map (key_of f 0) ss) m) q
      ≡ (list_any (λ s. is_key q (key_of f 0 s)) ss || map_of.contains_key m q)
  filled f [] m q = refl
  filled f (s ∷ ss) m q =
      let v = first_value rules (key_of f 0 s) in
      filled f ss (map_of.insert m (key_of f 0 s) v) q ∙ grind (arith, has_inserted m (key_of f 0 s) v q)

  -- after a feature's defaults are filled in, its keys have values if it has defaults, and so have the keys before
  one_default : (m : FeatureValues) (f : Feature) (q : ValueKey)
      → map_of.contains_key (with_default rules vwc m f) q
      ≡ (is_default rules vwc q f || map_of.contains_key m q)
  one_default m f q = at_test (has_default rules vwc f)
    where
      at_test : (b : Bool)
          → map_of.contains_key (if b then changed (fill rules) (map (key_of f 0) (row_of f).selectors) m
          else m) q
          ≡ ((b && list_any (λ s. is_key q (key_of f 0 s)) (row_of f).selectors)
          || map_of.contains_key m q)
      at_test true = filled f (row_of f).selectors m q
      at_test false = refl

  -- after the defaults of features are filled in, the keys of each have values, and so have the keys before
  some_defaults : (m : FeatureValues) (fs : List Feature) (q : ValueKey)
      → map_of.contains_key (fold (with_default rules vwc) m fs) q
      ≡ (list_any (is_default rules vwc q) fs || map_of.contains_key m q)
  some_defaults m [] q = refl
  some_defaults m (f ∷ fs) q =
      some_defaults (with_default rules vwc m f) fs q ∙ grind (arith, one_default m f q)

  -- ---- the values are sound

  -- sound values stay sound when a feature's defaults are filled in under selectors
  sound_fill : AreRules rules → (f : Feature) (ss : List ℕ) (m : FeatureValues) → AreSound m
      → AreSound (changed (fill rules) (map (key_of f 0) ss) m)
  sound_fill are f [] m all = all
  sound_fill are f (s ∷ ss) m all =
      sound_fill are f ss (map_of.insert m (key_of f 0 s) (first_value rules (key_of f 0 s)))
      (sound-insert m (key_of f 0 s) (first_value rules (key_of f 0 s)) all
      (first_is_sound rules are f 0 s))

  -- sound values stay sound when the defaults of features are filled in
  sound_defaults : AreRules rules → (m : FeatureValues) (fs : List Feature) → AreSound m
      → AreSound (fold (with_default rules vwc) m fs)
  sound_defaults are m [] all = all
  sound_defaults are m (f ∷ fs) all =
      sound_defaults are (with_default rules vwc m f) fs (at_test (has_default rules vwc f))
    where
      at_test : (b : Bool)
          → AreSound (if b then changed (fill rules) (map (key_of f 0) (row_of f).selectors) m else m)
      at_test true = sound_fill are f (row_of f).selectors m all
      at_test false = all

  -- ---- they are the values of all keys

  -- no NSIDs
  abbrev no_nsids : Nsids
  no_nsids = map_of.empty

  -- the value of the feature's key
  abbrev at_start : ValueKey → Feature → Bool
  at_start q f = is_supported rules vwc f && (is_selector f q.selector
      && (if (row_of f).per_namespace
      then map_of.contains_key no_nsids q.nsid
      else q.nsid == 0))

  -- the test of equality doesn't depend on the order of the numbers
  turned : (a b : ℕ) → (a == b) ≡ (b == a)
  turned a b = grind (arith, nat_tests)

  -- a test of numbers, of which only the last part depends on the number, is true if that part is true of one
  some_key : (a b : Bool) (n : ℕ) (ss : List ℕ) → list_any (λ s. a && (b && (n == s))) ss
      ≡ (a && (b && list_any (λ s. s == n) ss))
  some_key a b n [] = grind arith
  some_key a b n (s ∷ ss) = grind (arith, nat_tests, some_key a b n ss)

  -- a key is a default of a feature if and only if it has the feature's identifier and a value at the start
  is_of : (q : ValueKey) (f : Feature)
      → is_default rules vwc q f ≡ (((row_of f).fid == q.fid) && at_start q f)
  is_of q f =
      ap (λ b. has_default rules vwc f && b)
      ((λ i. list_any (λ s. by_numbers q (key_of f 0 s) i) (row_of f).selectors)
      ∙ some_key (q.fid == (row_of f).fid) (q.nsid == (if (row_of f).per_namespace then 0 else 0))
      q.selector (row_of f).selectors
      ∙ λ i. turned q.fid (row_of f).fid i && ((q.nsid == no_nsid (row_of f).per_namespace i)
      && is_selector f q.selector))
      ∙ by_kind (is_supported rules vwc f) (row_of f).per_namespace ((row_of f).fid == q.fid)
      (is_selector f q.selector) (q.nsid == 0)
    where
      zero_nsid : ℕ
      zero_nsid = 0

      no_nsid : (b : Bool) → (if b then zero_nsid else zero_nsid) ≡ zero_nsid
      no_nsid b = grind arith

      by_kind : (s p a h z : Bool) → ((s && not p) && (a && (z && h)))
          ≡ (a && (s && (h && (if p then map_of.contains_key no_nsids q.nsid else z))))
      by_kind s p a h z = grind (arith, ap is_some (get-empty {X = Unit {0}} nat_cmp q.nsid))

  -- features with the same identifier are the same
  same_feature : (f g : Feature) → (row_of f).fid ≡ (row_of g).fid → f ≡ g
  same_feature f g e =
      let both : Some f ≡ Some g = sym (feature_at f) ∙ ap feature_of e ∙ feature_at g in cc both

  -- if a feature with an identifier passes a test, so does each feature with that identifier
  rest_alike : (a : ℕ) (p : Feature → Bool) (f : Feature) → (row_of f).fid ≡ a → (fs : List Feature)
      → list_any (λ g. ((row_of g).fid == a) && p g) fs ≡ true → p f ≡ true
  rest_alike a p f here [] any = absurd (cc any)
  rest_alike a p f here (g ∷ fs) any =
      at_test ((row_of g).fid == a) (p g) refl refl any (rest_alike a p f here fs)
    where
      at_test : (b c : Bool) → ((row_of g).fid == a) ≡ b → p g ≡ c
          → ((b && c) || list_any (λ g. ((row_of g).fid == a) && p g) fs) ≡ true
          → (list_any (λ g. ((row_of g).fid == a) && p g) fs ≡ true → p f ≡ true) → p f ≡ true
      at_test true true e is any later =
          ap p (same_feature f g (here ∙ sym (eqb-true (row_of g).fid a e))) ∙ is
      at_test true false e is any later = later any
      at_test false c e is any later = later any

  -- whether a feature with an identifier passes a test is whether the first feature with that identifier does
  by_first : (a : ℕ) (p : Feature → Bool) (fs : List Feature)
      → list_any (λ f. ((row_of f).fid == a) && p f) fs
      ≡ option_map_or p (find (λ f. (row_of f).fid == a) fs) false
  by_first a p [] = refl
  by_first a p (f ∷ fs) = at_test ((row_of f).fid == a) refl (by_first a p fs)
    where
      at_test : (b : Bool) → ((row_of f).fid == a) ≡ b
          → list_any (λ f. ((row_of f).fid == a) && p f) fs
          ≡ option_map_or p (find (λ f. (row_of f).fid == a) fs) false
          → ((b && p f) || list_any (λ f. ((row_of f).fid == a) && p f) fs)
          ≡ option_map_or p (if b then Some f else find (λ f. (row_of f).fid == a) fs) false
      at_test true e later =
          let rest = rest_alike a p f (eqb-true (row_of f).fid a e) fs in grind (arith, rest)
      at_test false e later = later

  -- no values
  abbrev nothing : FeatureValues
  nothing = map_of.empty

  -- a disjunction with a false value is the other value
  or_nothing : (b c : Bool) → c ≡ false → (b || c) ≡ b
  or_nothing true c e = refl
  or_nothing false c e = e

  -- without attached NSIDs, exactly the keys that are due have values when the defaults are filled in
  pub start_values : AreRules rules → AreValues rules vwc map_of.empty (defaults_of rules vwc)
  start_values are = record {
    keys = λ q. some_defaults map_of.empty features q
        ∙ or_nothing (list_any (is_default rules vwc q) features) (map_of.contains_key nothing q)
        (ap is_some (get-empty key_cmp q))
        ∙ (λ i. list_any (λ f. is_of q f i) features)
        ∙ by_first q.fid (at_start q) features;
    sound = sound_defaults are map_of.empty features
        (λ k x e. absurd (cc (sym (get-empty key_cmp k) ∙ e)));
  }

-- ---- attachments

-- with the namespaces of a file attached, exactly the keys that are due have values
pub attached_values : (rules : FeatureRules) (vwc cntlid : ℕ) → AreRules rules
    → (ns : List NamespaceValue) (attached : Nsids) (values : FeatureValues)
    → AreValues rules vwc attached values
    → AreValues rules vwc (fold (with_attachment cntlid) attached ns)
    (fold (with_recovery cntlid rules) values ns)
attached_values rules vwc cntlid are_rules [] attached values are = are
attached_values rules vwc cntlid are_rules (n ∷ ns) attached values are =
    attached_values rules vwc cntlid are_rules ns (with_attachment cntlid attached n)
    (with_recovery cntlid rules values n) (at_test (is_attached_to cntlid n))
  where
    at_test : (b : Bool)
        → AreValues rules vwc (if b then map_of.insert attached n.nsid tt else attached)
        (if b then map_of.insert values (recovery_key n.nsid) (first_value rules (recovery_key n.nsid))
        else values)
    at_test true = values-with rules vwc attached values are are_rules n.nsid
    at_test false = are
