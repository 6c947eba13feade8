-- The values of a controller's features, and the rules that say their defaults.
use Rattle.std.specs.Prelude.{◌≡◌, ℕ, ◌-◌, ◌≤◌, Bool, true, false, nat_lt, if◌then◌else◌, List, length}
use Rattle.std.specs.Prelude.{All, slice_index, unwrap_or, Some, None, ◌==◌, [], ◌∷◌, map}
use Rattle.std.specs.Ordering.{nat_cmp}
use Rattle.std.specs.FinMap as map_of
use Rattle.std.specs.Cmp.Lexicographic.{slice_cmp}
use Rattle.std.specs.declared.cmp.Ordering.{Ordering}
use Rattle.nv_model.specs.declared.defaults.Defaults.{Defaults}
use Rattle.nv_model.specs.declared.defaults.Defaults.TheVariants.{One, Thresholds}
use Rattle.nv_layout.specs.Feature.{row_of}
use Rattle.nv_layout.specs.declared.feature.Feature.{Feature}
use Rattle.nv_model.specs.declared.feature_rule.FeatureRule.{FeatureRule}
use Rattle.nv_model.specs.declared.feature_value.FeatureValue.{FeatureValue}
use Rattle.nv_layout.specs.declared.feature.Feature.TheVariants.{ErrorRecovery}

-- the default under a selector; the selectors of Temperature Threshold from 16 on are for temperatures
-- under a threshold
abbrev pub default_at : Defaults → ℕ → ℕ
default_at (One value) selector = value
default_at (Thresholds over under) selector =
    if nat_lt selector 16 then slice_index over selector else slice_index under (selector - 16)

-- the defaults are lists
abbrev pub are_lists : Defaults → Bool
are_lists (One value) = false
are_lists (Thresholds over under) = true

-- nine temperatures
abbrev pub AreThresholds : List ℕ → Type 0
AreThresholds numbers = (length numbers ≡ 9) × All (λ n. n ≤ 65535) numbers

-- the defaults of Temperature Threshold are two lists of thresholds; any other default is allowed
abbrev pub AreDefaults : Defaults → Type 0
AreDefaults (One value) = Unit {0}
AreDefaults (Thresholds over under) = AreThresholds over × AreThresholds under

-- the rules by feature identifier
abbrev pub FeatureRules : Type 0
FeatureRules = map_of.FinMap nat_cmp FeatureRule

-- the rule of a feature that has no table in the file
abbrev pub default_rule : ℕ → FeatureRule
default_rule fid = record { fid = fid; defaults = One 0; saveable = false; changeable = true }

-- the rule of a feature identifier, or the default rule if there is none
abbrev pub rule_for : FeatureRules → ℕ → FeatureRule
rule_for rules fid = unwrap_or (map_of.get rules fid) (default_rule fid)

-- the rule of a feature
abbrev pub rule_of : FeatureRules → Feature → FeatureRule
rule_of rules f = rule_for rules (row_of f).fid

-- the default under a selector
abbrev pub default_of : FeatureRule → ℕ → ℕ
default_of rule selector = default_at rule.defaults selector

-- a value at its default, before any value is set
abbrev pub at_default : FeatureRule → ℕ → FeatureValue
at_default rule selector = record { current = default_of rule selector; saved = None }

-- a feature identifier, an NSID, which is 0 if no namespace has a value of its own, and a selector,
-- which is 0 if there is one value
pub record ValueKey : Type 0 where
  pub fid : ℕ
  pub nsid : ℕ
  pub selector : ℕ

-- the value of a key before any is set
abbrev pub first_value : FeatureRules → ValueKey → FeatureValue
first_value rules k = at_default (rule_for rules k.fid) k.selector

-- a value with another current value, which is also saved if that is asked for
abbrev pub written : ℕ → Bool → FeatureValue → FeatureValue
written value save x = record { current = value; saved = if save then Some value else x.saved }

-- a value with the saved value as the current one, or with the default if nothing was saved
abbrev pub restored : ℕ → FeatureValue → FeatureValue
restored default x = record x { current = unwrap_or x.saved default }

-- the numbers of a key, by which keys are ordered
abbrev pub numbers_of : ValueKey → List ℕ
numbers_of k = k.fid ∷ k.nsid ∷ k.selector ∷ []

-- the order of keys
abbrev pub key_cmp : ValueKey → ValueKey → Ordering
key_cmp a b = slice_cmp nat_cmp (numbers_of a) (numbers_of b)

-- the values of a controller's features
abbrev pub FeatureValues : Type 0
FeatureValues = map_of.FinMap key_cmp FeatureValue

-- the key of a feature's value under a selector
abbrev pub key_of : Feature → ℕ → ℕ → ValueKey
key_of f nsid selector = record {
  fid = (row_of f).fid;
  nsid = if (row_of f).per_namespace then nsid else 0;
  selector = selector;
}

-- the keys of a feature's values for an NSID, one for each selector
abbrev pub keys_of : Feature → ℕ → List ValueKey
keys_of f nsid = map (key_of f nsid) (row_of f).selectors

-- Error Recovery's value for a namespace
abbrev pub recovery_key : ℕ → ValueKey
recovery_key nsid = key_of ErrorRecovery nsid 0

-- a key of no namespace
abbrev pub is_alone : ValueKey → Bool
is_alone k = k.nsid == 0
