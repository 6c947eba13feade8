-- A reset leaves a well-formed subsystem well formed, and adds or removes no controller.
use Rattle.std.proofs.lemmas.Grind.{common_steps}
use Rattle.std.proofs.Common.{◌≡◌, ◌∙◌, ℕ, zero, suc, ◌+◌, Bool, true, false, List, [], ◌∷◌, map, length, Option, Some}
use Rattle.std.proofs.Common.{None, is_some, refl, sym, ap, subst, arith, rules}
use Rattle.std.specs.FinMap as map_of
use Rattle.nv_model.specs.Values.{FeatureRules, first_value, rule_for, rule_of, default_of, restored, FeatureValues}
use Rattle.nv_model.specs.Values.{ValueKey, key_cmp}
use Rattle.nv_model.specs.Step.{all_restored, reset, reset_if, with_restored}
use Rattle.nv_model.proofs.Words.{and_from, and_parts, AreRules, Feature, feature_of, feature_with}
use Rattle.nv_model.proofs.Words.{FeatureValue, find, fold, get-entries, get-from_entries, is_value}
use Rattle.nv_model.proofs.Words.{is_value_at, IsWellFormed, may_have, option_map, option_map_or, range_with_len}
use Rattle.nv_model.proofs.Words.{State, unwrap_or}
use Rattle.nv_model.proofs.ChangedAtLaws.{length-changed_at}
use Rattle.nv_model.proofs.FeatureLaws.{AreSound, default_is_sound}
use Rattle.nv_model.proofs.KeepingLaws.{KeepsController, keeps}
use Rattle.nv_model.proofs.ValueLaws.{key_cmp_total, same_key}

-- ---- the value of each key

-- in entries whose values are changed by their keys, a key has its value changed
found : (g : ValueKey → FeatureValue → FeatureValue) (es : List (ValueKey × FeatureValue))
    (k : ValueKey)
    → find key_cmp k (map (λ e. (e.0, g e.0 e.1)) es) ≡ option_map (g k) (find key_cmp k es)
found g [] k = refl
found g (e ∷ es) k = grind (arith, same_key k e.0, found g es k)

-- after a reset, a key has its value restored from the saved one or the default
pub get-all_restored : (rules : FeatureRules) (values : FeatureValues) (k : ValueKey)
    → map_of.get (all_restored rules values) k
    ≡ option_map (restored (first_value rules k).current) (map_of.get values k)
get-all_restored rules values k =
    get-from_entries key_cmp_total _ k
    ∙ found (λ q x. restored (first_value rules q).current x) (map_of.entries values) k
    ∙ ap (option_map (restored (first_value rules k).current)) (sym (get-entries values k))

-- ---- one controller

-- a restored value is there if and only if the value is
has_restored : (d : ℕ) (o : Option FeatureValue) → is_some (option_map (restored d) o) ≡ is_some o
has_restored d o = search rules

module _ (rules : FeatureRules) (are : AreRules rules) where
  -- a saved value that a feature may have, or else its default, is a value of the feature
  current_is_sound : (f : Feature) (selector d : ℕ) (saved : Option ℕ)
      → d ≡ default_of (rule_of rules f) selector
      → option_map_or (is_value f) saved true ≡ true → is_value f (unwrap_or saved d) ≡ true
  current_is_sound f selector d saved h e = grind (arith, common_steps, default_is_sound)

  -- a sound value stays sound when it is restored
  one_is_sound : (k : ValueKey) (x : FeatureValue) → is_value_at k x ≡ true
      → is_value_at k (restored (first_value rules k).current x) ≡ true
  one_is_sound k x fits = by (feature_of k.fid) refl fits
    where
      by : (o : Option Feature) → feature_of k.fid ≡ o
          → option_map_or (λ f. may_have f x) o false ≡ true
          → option_map_or (λ f. may_have f (restored (first_value rules k).current x)) o false
          ≡ true
      by None e fits = absurd (cc fits)
      by (Some f) e fits =
          let saved = (and_parts (is_value f x.current) _ fits).1 in
          let is = ap (λ fid. default_of (rule_for rules fid) k.selector)
          (feature_with k.fid f e) in
          and_from _ _ (current_is_sound f k.selector _ x.saved is saved) saved

  -- sound values stay sound when they are restored
  all_sound : (values : FeatureValues) → AreSound values → AreSound (all_restored rules values)
  all_sound values sound k y e =
      by (map_of.get values k) refl (sym (get-all_restored rules values k) ∙ e)
    where
      by : (o : Option FeatureValue) → map_of.get values k ≡ o
          → option_map (restored (first_value rules k).current) o ≡ Some y
          → is_value_at k y ≡ true
      by None e is = absurd (cc is)
      by (Some x) e is =
          let same : restored (first_value rules k).current x ≡ y = cc is in
          subst (λ z. is_value_at k z ≡ true) same (one_is_sound k x (sound k x e))

-- restoring values keeps a controller
restoring_keeps : KeepsController with_restored
restoring_keeps = search (rules, get-all_restored, has_restored, all_sound)

-- a reset leaves a well-formed subsystem well formed
pub reset_keeps : (s : State) (c : ℕ) → IsWellFormed s → IsWellFormed (reset s c)
reset_keeps s c w = keeps s c with_restored restoring_keeps w

-- a reset adds or removes no controller
pub length-reset : (s : State) (c : ℕ) → length (reset s c).controllers ≡ length s.controllers
length-reset s c = length-changed_at with_restored s.controllers c

-- ---- the enabled ones of some controllers

module _ (enabled : List Bool) where
  -- ---- the enabled ones of the first n controllers, for a loop over all

  -- the state after resets of the enabled ones of the first n controllers
  abbrev pub reset_first : ℕ → State → State
  reset_first n s = fold (reset_if enabled) s (range_with_len 0 n)

  -- resets of the enabled ones of n + 1 controllers reset the first n and then the last, as far as they are enabled
  one_more : (a n : ℕ) (s : State) → fold (reset_if enabled) s (range_with_len a (suc n))
      ≡ reset_if enabled (fold (reset_if enabled) s (range_with_len a n)) (a + n)
  one_more a zero s = search rules
  one_more a (suc n) s = grind (arith, common_steps, one_more (a + 1) n (reset_if enabled s a))

  -- resets of the enabled ones of the first n + 1 controllers reset the first n and then controller n
  pub reset_first_more : (n : ℕ) (s : State)
      → reset_first (n + 1) s ≡ reset_if enabled (reset_first n s) n
  reset_first_more n s = search (rules, one_more)
