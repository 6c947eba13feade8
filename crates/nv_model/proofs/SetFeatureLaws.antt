-- Get Features and Set Features leave a well-formed subsystem well formed, and their replies fit.
use Rattle.std.proofs.lemmas.Grind.{common_steps}
use Rattle.std.proofs.Common.{rules, ◌≡◌, ℕ, ◌<◌, ◌^◌, Bool, true, false, List, [], ◌∷◌, length, Option}
use Rattle.std.proofs.Common.{Some, None, is_some, refl, sym, ap, arith, subst, lit<, map}
use Rattle.std.specs.FinMap as map_of
use Rattle.nv_command.specs.declared.features.FeatureQuery.{FeatureQuery}
use Rattle.nv_command.specs.declared.features.FeatureSetting.{FeatureSetting}
use Rattle.nv_model.specs.Change.{changed_at}
use Rattle.nv_model.specs.Values.{FeatureRules, rule_of, default_of, written, FeatureValues, key_of}
use Rattle.nv_model.specs.Features.{feature_number, get_feature_rows, is_set, selected, set_feature_rows}
use Rattle.nv_model.specs.Features.{asked_value, set_rows, with_feature, with_value, write}
use Rattle.nv_model.proofs.Words.{and_parts, AreValues, changed, changed_nsids, Controller, controller_at, Feature}
use Rattle.nv_model.proofs.Words.{feature_of, FeatureRule, FeatureValue, first_refusal, fold, if◌then◌else◌}
use Rattle.nv_model.proofs.Words.{InvalidFieldInCommand, is_accepted, is_get_selector}
use Rattle.nv_model.proofs.Words.{is_supported, is_value, is_value_at, IsController, IsWellFormed, may_have}
use Rattle.nv_model.proofs.Words.{Nsids, option_map, option_map_or, Row, row, row_of, selector_in, State, stored}
use Rattle.nv_model.proofs.Words.{stored_is_value, supported, unwrap_or, value_fits, with_controller, with_values}
use Rattle.nv_model.proofs.ChangedAtLaws.{length-changed_at}
use Rattle.nv_model.proofs.ChoiceLaws.{chosen_fits}
use Rattle.nv_model.proofs.FeatureLaws.{default_is_sound, sound_at, values-written}
use Rattle.nv_model.proofs.KeepingLaws.{KeepsController, is_controller, keeps}
use Rattle.nv_model.proofs.ManagementLaws.{AllRefuse}
use Rattle.nv_model.proofs.ValueLaws.{put_back, removed_absent}

-- ---- rows

-- if the rows of each feature and the other rows have refusals, so have the rows of a supported feature, or of none
supported_rows_fit : (o : Option Feature) (rows : Feature → List Row) (others : List Row)
    → ((f : Feature) → AllRefuse (rows f)) → AllRefuse others
    → AllRefuse (option_map_or rows o others)
supported_rows_fit o rows others h e = search rules

-- each row of a Get Features has a refusal
pub get_feature_rows_fit : (s : State) (c : ℕ) (q : FeatureQuery)
    → AllRefuse (get_feature_rows s c q)
get_feature_rows_fit s c q = search (rules, supported_rows_fit)

-- each row of a Set Features has a refusal
pub set_feature_rows_fit : (s : State) (c : ℕ) (x : FeatureSetting)
    → AllRefuse (set_feature_rows s c x)
set_feature_rows_fit s c x = search (rules, supported_rows_fit)

-- ---- a set

-- a value that is sound under a key of a feature is one that the feature may have
sound_value : (f : Feature) (n s : ℕ) (x : FeatureValue) → is_value_at (key_of f n s) x ≡ true
    → may_have f x ≡ true
sound_value f n s x e = search rules

-- a value that a feature may have stays one when another value of the feature is written
may_have_written : (f : Feature) (value : ℕ) (save : Bool) (x : FeatureValue)
    → is_value f value ≡ true
    → may_have f x ≡ true → may_have f (written value save x) ≡ true
may_have_written f value save x h e = search rules

module _ (f : Feature) (value : ℕ) (save : Bool) (fits : is_accepted f value ≡ true)
    (rules : FeatureRules) (vwc : ℕ) (attached : Nsids) where
  -- exactly the keys that are due have a value, which their feature may have
  abbrev AreHere : FeatureValues → Type 0
  AreHere = AreValues rules vwc attached

  -- a Set for one key keeps the values well formed
  one_selector : (values : FeatureValues) (n s : ℕ) → AreHere values
      → AreHere (changed_at (write f value save) values (key_of f n s))
  one_selector values n s are = by (is_set f value s) (map_of.get values (key_of f n s)) refl
    where
      by : (b : Bool) (o : Option FeatureValue) → map_of.get values (key_of f n s) ≡ o
          → AreHere (option_map_or (map_of.insert values (key_of f n s))
          (if b then option_map (written (stored f value) save) o else o)
          (map_of.remove values (key_of f n s)))
      by false o e = subst AreHere (sym (put_back values (key_of f n s) o e)) are
      by true None e = subst AreHere (sym (removed_absent values (key_of f n s) e)) are
      by true (Some x) e =
          values-written rules vwc attached values are (key_of f n s)
          (written (stored f value) save x) (ap is_some e)
          (sound_at f n s (written (stored f value) save x)
          (may_have_written f (stored f value) save x (stored_is_value f value fits)
          (sound_value f n s x (are.sound (key_of f n s) x e))))

  -- a Set for several selectors of one NSID keeps the values well formed
  some_selectors : (n : ℕ) (ss : List ℕ) (values : FeatureValues) → AreHere values
      → AreHere (changed (write f value save) (map (key_of f n) ss) values)
  some_selectors n [] values are = are
  some_selectors n (s ∷ ss) values are =
      some_selectors n ss (changed_at (write f value save) values (key_of f n s))
      (one_selector values n s are)

  -- a Set for all selectors of several NSIDs keeps the values well formed
  all_values : (ns : List ℕ) (values : FeatureValues) → AreHere values
      → AreHere (fold (with_value f value save) values ns)
  all_values [] values are = are
  all_values (n ∷ ns) values are =
      all_values ns (with_value f value save values n)
      (some_selectors n (row_of f).selectors values are)

-- a Set with an accepted dword keeps a controller
set_keeps : (f : Feature) (value : ℕ) (save : Bool) (ns : List ℕ) → is_accepted f value ≡ true
    → KeepsController (with_values f value save ns)
set_keeps f value save ns fits = search (rules, all_values)

-- an accepted set has a dword that the feature accepts
module _ (s : State) (c : ℕ) (x : FeatureSetting) where
  abbrev to_controller : Feature → Controller → Controller
  to_controller f = with_values f x.value x.save (changed_nsids s c x.nsid f)

  module _ (f : Feature) where
    -- no row refuses a Set for this feature, or for no feature
    abbrev accepted_by : Option Feature → Type 0
    accepted_by o = first_refusal
        (option_map_or (set_rows s c x) o (row true InvalidFieldInCommand ∷ [])) ≡ None

    -- a Set that is accepted if its feature is supported has a dword that the feature accepts
    by_support : (b : Bool) (g : Feature) → accepted_by (if b then Some g else None) → g ≡ f
        → is_accepted f x.value ≡ true
    by_support b g h e = search rules

    -- a Set that a controller accepts for a feature, if there is one, has a dword that the feature accepts
    by_feature : (y : Controller) (o : Option Feature)
        → accepted_by (option_map_or
        (λ g. if is_supported y.rules y.identity.numbers.vwc g then Some g else None) o None)
        → o ≡ Some f → is_accepted f x.value ≡ true
    by_feature y o h e = search (rules, by_support)

    -- a Set that is accepted by a controller, if there is one, has a dword that the feature accepts
    by_controller : (o : Option Controller)
        → accepted_by (option_map_or (λ y. supported y.rules y.identity.numbers.vwc x.fid) o None)
        → feature_of x.fid ≡ Some f → is_accepted f x.value ≡ true
    by_controller None accepted e = absurd (cc accepted)
    by_controller (Some y) accepted e = by_feature y (feature_of x.fid) accepted e

  -- a Set Features that isn't refused leaves a well-formed subsystem well formed
  pub feature_keeps : IsWellFormed s → first_refusal (set_feature_rows s c x) ≡ None
      → IsWellFormed (with_feature s c x)
  feature_keeps w accepted = by (feature_of x.fid) refl
    where
      by : (o : Option Feature) → feature_of x.fid ≡ o
          → IsWellFormed (option_map_or (λ f. with_controller s c (to_controller f)) o s)
      by None e = w
      by (Some f) e = keeps s c (to_controller f)
          (set_keeps f x.value x.save (changed_nsids s c x.nsid f)
          (by_controller f (controller_at s c) accepted e)) w

  -- a Set Features adds or removes no controller
  pub feature_controllers : length (with_feature s c x).controllers ≡ length s.controllers
  feature_controllers = grind (arith, common_steps, feature_of, option_map_or, length-changed_at)

-- ---- a number that is returned

-- what a select names for a sound value and default is a number of 32 bits
selected_fits : (rule : FeatureRule) (f : Feature) (sel selector : ℕ) (x : FeatureValue)
    → is_value f (default_of rule selector) ≡ true
    → may_have f x ≡ true → selected rule f sel selector x < 2 ^ 32
selected_fits rule f sel selector x default is =
    grind (arith, common_steps, and_parts, is_value, option_map_or, value_fits, chosen_fits, row_of, unwrap_or)

-- what a Get names for a controller's feature is a number of 32 bits
asked_value_fits : (s : State) (x : Controller) → IsController s.namespaces x
    → (q : FeatureQuery) (f : Feature) → asked_value q f x < 2 ^ 32
asked_value_fits s x is q f = chosen_fits (λ m. m < 2 ^ 32) (is_get_selector f q.cdw11) _ 0
    (by (selector_in f q.cdw11)
    (map_of.get x.values (key_of f q.nsid (selector_in f q.cdw11))) refl)
    (lit< tt)
  where
    by : (t : ℕ) (o : Option FeatureValue) → map_of.get x.values (key_of f q.nsid t) ≡ o
        → option_map_or (selected (rule_of x.rules f) f q.sel t) o 0 < 2 ^ 32
    by t None e = lit< tt
    by t (Some v) e = selected_fits (rule_of x.rules f) f q.sel t v
        (default_is_sound x.rules is.rules f t)
        (sound_value f q.nsid t v (is.values.sound (key_of f q.nsid t) v e))

-- the number that a Get Features returns has 32 bits
pub feature_number_fits : (s : State) (c : ℕ) (q : FeatureQuery) → IsWellFormed s
    → feature_number s c q < 2 ^ 32
feature_number_fits s c q w = by_feature (feature_of q.fid)
  where
    by_controller : (f : Feature) (o : Option Controller) → controller_at s c ≡ o
        → option_map_or (asked_value q f) o 0 < 2 ^ 32
    by_controller f None e = lit< tt
    by_controller f (Some x) e = asked_value_fits s x (is_controller s c w x e) q f

    by_feature : (o : Option Feature)
        → option_map_or (λ f. option_map_or (asked_value q f) (controller_at s c) 0) o 0 < 2 ^ 32
    by_feature None = lit< tt
    by_feature (Some f) = by_controller f (controller_at s c) refl
