-- The values of features stay well formed when NSIDs are attached and detached, and when values are written.
use Rattle.std.proofs.lemmas.Grind.{common_steps}
use Rattle.std.proofs.Common.{◌≡◌, ◌∙◌, ℕ, ◌==◌, ◌&&◌, Bool, true, false, cond, Option, Some, None, refl, sym}
use Rattle.std.proofs.Common.{ap, subst, arith, rules}
use Rattle.std.specs.FinMap as map_of
use Rattle.nv_layout.specs.declared.feature.Feature.TheVariants as feature
use Rattle.nv_model.specs.Values.{default_at, FeatureRules, first_value, rule_of, default_of, default_rule}
use Rattle.nv_model.specs.Values.{FeatureValues, ValueKey, is_alone, key_of, recovery_key}
use Rattle.nv_model.specs.declared.defaults.Defaults.{Defaults}
use Rattle.nv_model.proofs.Words.{and_from, AreRules, AreValues, contains-insert, contains-remove, default_is_value}
use Rattle.nv_model.proofs.Words.{Feature, feature_at, feature_of}
use Rattle.nv_model.proofs.Words.{FeatureRule, FeatureValue, get-empty, has_value, if◌then◌else◌, is_selector}
use Rattle.nv_model.proofs.Words.{is_supported, is_value, is_value_at, IsSomeAnd, may_have, Nsids}
use Rattle.nv_model.proofs.Words.{option_map_or, row_of, unwrap_or}
use Rattle.nv_model.proofs.ValueLaws.{is_key, same_key, value_of_insert, value_of_remove, value_of_retain}

-- ---- which keys have a value after a change

-- after a value is inserted under k, there is one under k and under each key that had one
pub has_inserted : (m : FeatureValues) (k : ValueKey) (x : FeatureValue) (q : ValueKey)
    → map_of.contains_key (map_of.insert m k x) q ≡ cond (is_key q k) true (map_of.contains_key m q)
has_inserted m k x q = grind (arith, value_of_insert m k x q)

-- after the value under k is removed, there is none under k, and one under each other key that had one
has_removed : (m : FeatureValues) (k q : ValueKey)
    → map_of.contains_key (map_of.remove m k) q ≡ cond (is_key q k) false (map_of.contains_key m q)
has_removed m k q = grind (arith, value_of_remove m k q)

-- after the keys of namespaces are removed, there is a value under each other key that had one
has_retained : (m : FeatureValues) (q : ValueKey)
    → map_of.contains_key (map_of.retain_keys m is_alone) q
    ≡ cond (is_alone q) (map_of.contains_key m q) false
has_retained m q = grind (arith, value_of_retain m is_alone q)

-- ---- each value is one that its feature may have

-- each value is one that the feature of its key may have
abbrev pub AreSound : FeatureValues → Type 0
AreSound values = (k : ValueKey) (x : FeatureValue) → map_of.get values k ≡ Some x
    → is_value_at k x ≡ true

-- sound values stay sound when one that the feature of its key may have is inserted
pub sound-insert : (values : FeatureValues) (k : ValueKey) (x : FeatureValue) → AreSound values
    → is_value_at k x ≡ true → AreSound (map_of.insert values k x)
sound-insert values k x all fits q y e =
    at_test (is_key q k) refl (sym (value_of_insert values k x q) ∙ e)
  where
    at_test : (b : Bool) → is_key q k ≡ b → cond b (Some x) (map_of.get values q) ≡ Some y
        → is_value_at q y ≡ true
    at_test true h e = let same : x ≡ y = cc e in
        ap (λ p. is_value_at p y) (same_key q k h) ∙ ap (is_value_at k) (sym same) ∙ fits
    at_test false h e = all q y e

-- ---- defaults

-- the default of a feature, by its rule or by the default rule, is a value of it
pub default_is_sound : (rules : FeatureRules) → AreRules rules → (f : Feature) (selector : ℕ)
    → is_value f (default_of (rule_of rules f) selector) ≡ true
default_is_sound rules are f selector = by_rule (map_of.get rules (row_of f).fid) refl
  where
    by_feature : (o : Option Feature) (d : Defaults) → o ≡ Some f
        → IsSomeAnd o (λ g. (s : ℕ) → is_value g (default_at d s) ≡ true)
        → is_value f (default_at d selector) ≡ true
    by_feature None d e h = absurd h
    by_feature (Some g) d e h = let same : g ≡ f = cc e in
        subst (λ g. is_value g (default_at d selector) ≡ true) same (h selector)

    by_rule : (o : Option FeatureRule) → map_of.get rules (row_of f).fid ≡ o
        → is_value f (default_of (unwrap_or o (default_rule (row_of f).fid)) selector) ≡ true
    by_rule None e = default_is_value f
    by_rule (Some r) e =
        let is = are (row_of f).fid r e in
        by_feature (feature_of r.fid) r.defaults (ap feature_of is.1 ∙ feature_at f) is.0.default

-- a value that a feature may have is sound under a key of that feature
pub sound_at : (f : Feature) (n s : ℕ) (x : FeatureValue) → may_have f x ≡ true
    → is_value_at (key_of f n s) x ≡ true
sound_at f n s x e = ap (λ o. option_map_or (λ f. may_have f x) o false) (feature_at f) ∙ e

-- the first value under a key of a feature is one that the feature may have
pub first_is_sound : (rules : FeatureRules) → AreRules rules → (f : Feature) (n s : ℕ)
    → is_value_at (key_of f n s) (first_value rules (key_of f n s)) ≡ true
first_is_sound rules are f n s = search (rules, sound_at, and_from, default_is_sound)

-- ---- NSIDs are attached and detached

-- no NSIDs
abbrev no_nsids : Nsids
no_nsids = map_of.empty

module _ (rules : FeatureRules) (vwc : ℕ) where
  -- the value of a feature's key
  abbrev of : ValueKey → Nsids → Option Feature → Bool
  of q nsids o = option_map_or (λ f. is_supported rules vwc f && (is_selector f q.selector
      && (if (row_of f).per_namespace then map_of.contains_key nsids q.nsid else q.nsid == 0)))
      o false

  -- when an NSID is attached or detached, only its key of Error Recovery gets or loses a value
  recovery_moved : (attached moved : Nsids) (n : ℕ) (now : Bool)
      → ((q : ℕ) → map_of.contains_key moved q
      ≡ cond (q == n) now (map_of.contains_key attached q))
      → (q : ValueKey) → cond (is_key q (recovery_key n)) now (has_value rules vwc attached q)
      ≡ has_value rules vwc moved q
  recovery_moved attached moved n now is q = grind (arith, common_steps)

  -- without any NSID, only keys without one have a value
  none_attached : (attached : Nsids) → map_of.contains_key attached 0 ≡ false → (q : ValueKey)
      → cond (is_alone q) (has_value rules vwc attached q) false
      ≡ has_value rules vwc map_of.empty q
  none_attached attached first q = grind (arith, common_steps, get-empty)

module _ (rules : FeatureRules) (vwc : ℕ) (attached : Nsids) (values : FeatureValues)
    (are : AreValues rules vwc attached values) where
  -- when n is attached and its Error Recovery has the default, exactly the keys that are due have values
  pub values-with : AreRules rules → (n : ℕ) → AreValues rules vwc (map_of.insert attached n tt)
      (map_of.insert values (recovery_key n) (first_value rules (recovery_key n)))
  values-with are_rules n = record {
    keys = λ q. has_inserted values (recovery_key n) (first_value rules (recovery_key n)) q
        ∙ ap (cond (is_key q (recovery_key n)) true) (are.keys q)
        ∙ recovery_moved rules vwc attached (map_of.insert attached n tt) n true
        (contains-insert attached n tt) q;
    sound = sound-insert values (recovery_key n) (first_value rules (recovery_key n)) are.sound
        (first_is_sound rules are_rules feature.ErrorRecovery n 0);
  }

  -- when n is detached and its Error Recovery is removed, exactly the keys that are due have values
  pub values-without : (n : ℕ)
      → AreValues rules vwc (map_of.remove attached n) (map_of.remove values (recovery_key n))
  values-without n = record {
    keys = λ q. has_removed values (recovery_key n) q
        ∙ ap (cond (is_key q (recovery_key n)) false) (are.keys q)
        ∙ recovery_moved rules vwc attached (map_of.remove attached n) n false
        (contains-remove attached n) q;
    sound = λ q x e. are.sound q x (grind (arith, value_of_remove values (recovery_key n) q, e));
  }

  -- when all NSIDs are detached and what namespaces have is removed, exactly the keys that are due have values
  pub values-without_any : map_of.contains_key attached 0 ≡ false
      → AreValues rules vwc map_of.empty (map_of.retain_keys values is_alone)
  values-without_any first = grind (arith, common_steps, has_retained, none_attached, value_of_retain)

  -- when an existing value is overwritten by a sound one, exactly the keys that are due have values
  pub values-written : (k : ValueKey) (x : FeatureValue) → map_of.contains_key values k ≡ true
      → is_value_at k x ≡ true → AreValues rules vwc attached (map_of.insert values k x)
  values-written k x there fits = record {
    keys = λ q. grind (arith, has_inserted values k x q, same_key q k, there) ∙ are.keys q;
    sound = sound-insert values k x are.sound fits;
  }
