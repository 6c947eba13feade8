-- Get Features and Set Features: when they are refused, what they return, and what they change.
use Rattle.std.specs.Prelude.{ℕ, ◌+◌, ◌==◌, ◌&&◌, ◌||◌, not, nat_lt, Bool, true, List, [], ◌∷◌}
use Rattle.std.specs.Prelude.{Option, None, option_map, unwrap_or, if◌then◌else◌}
use Rattle.std.specs.List.{fold, list_any}
use Rattle.std.specs.Option.{option_map_or}
use Rattle.std.specs.FinMap as map_of
use Rattle.nv_layout.specs.Feature.{feature_of, is_accepted, is_get_selector, row_of}
use Rattle.nv_layout.specs.Feature.{selector_in, selectors_set, stored}
use Rattle.nv_layout.specs.declared.feature.Feature.{Feature}
use Rattle.nv_model.specs.declared.feature_rule.FeatureRule.{FeatureRule}
use Rattle.nv_command.specs.Nsid.{broadcast_nsid}
use Rattle.nv_command.specs.declared.features.FeatureQuery.{FeatureQuery}
use Rattle.nv_command.specs.declared.features.FeatureSetting.{FeatureSetting}
use Rattle.nv_command.specs.declared.status_code.StatusCode.TheVariants.{FeatureNotChangeable}
use Rattle.nv_command.specs.declared.status_code.StatusCode.TheVariants.{FeatureNotNamespaceSpecific}
use Rattle.nv_command.specs.declared.status_code.StatusCode.TheVariants.{FeatureIdentifierNotSaveable}
use Rattle.nv_command.specs.declared.status_code.StatusCode.TheVariants.{InvalidFieldInCommand}
use Rattle.nv_command.specs.declared.status_code.StatusCode.TheVariants.{InvalidNamespaceOrFormat}
use Rattle.nv_model.specs.Change.{Change, changed}
use Rattle.nv_model.specs.Values.{rule_of, default_of, default_rule, written, FeatureValues, key_of, keys_of}
use Rattle.nv_model.specs.Conditions.{concerned, is_active, is_valid, row, Row}
use Rattle.nv_model.specs.State.{Controller, State, controller_at, with_controller}
use Rattle.nv_model.specs.WellFormed.{supported}
use Rattle.nv_model.specs.declared.feature_value.FeatureValue.{FeatureValue}

-- how a controller treats a feature
abbrev pub rule_at : State → ℕ → Feature → FeatureRule
rule_at s c f =
    option_map_or (λ x. rule_of x.rules f) (controller_at s c) (default_rule (row_of f).fid)

-- the feature with an identifier, if the controller supports it
abbrev pub supported_at : State → ℕ → ℕ → Option Feature
supported_at s c fid =
    option_map_or (λ x. supported x.rules x.identity.numbers.vwc fid) (controller_at s c) None

-- ---- rows

-- a refusal if the identifier is not that of a supported feature, and otherwise the feature's rows
abbrev pub supported_rows : State → ℕ → ℕ → (Feature → List Row) → List Row
supported_rows s c fid rows =
    option_map_or rows (supported_at s c fid) (row true InvalidFieldInCommand ∷ [])

-- a select above 3; a selector that the feature doesn't have; and, if each namespace has a value of
-- its own, an NSID that is not valid, or not active
abbrev pub get_rows : State → ℕ → FeatureQuery → Feature → List Row
get_rows s c q f =
    row (nat_lt 3 q.sel) InvalidFieldInCommand
    ∷ row (not (is_get_selector f q.cdw11)) InvalidFieldInCommand
    ∷ row ((row_of f).per_namespace && not (is_valid s q.nsid)) InvalidNamespaceOrFormat
    ∷ row ((row_of f).per_namespace && not (is_active s c q.nsid)) InvalidFieldInCommand
    ∷ []

-- the rows of a Get Features
abbrev pub get_feature_rows : State → ℕ → FeatureQuery → List Row
get_feature_rows s c q = supported_rows s c q.fid (get_rows s c q)

-- a dword that the feature doesn't accept; an NSID that isn't valid, not active, or not for this feature; saving a
-- feature that isn't saveable; and changing one that isn't changeable
abbrev pub set_rows : State → ℕ → FeatureSetting → Feature → List Row
set_rows s c x f =
    let each = (row_of f).per_namespace in
    let all = x.nsid == broadcast_nsid in
    row (not (is_accepted f x.value)) InvalidFieldInCommand
    ∷ row (each && not (is_valid s x.nsid || all)) InvalidNamespaceOrFormat
    ∷ row (each && not (is_active s c x.nsid || all)) InvalidFieldInCommand
    ∷ row (not each && not (x.nsid == 0 || all)) FeatureNotNamespaceSpecific
    ∷ row (x.save && not (rule_at s c f).saveable) FeatureIdentifierNotSaveable
    ∷ row (not (rule_at s c f).changeable) FeatureNotChangeable
    ∷ []

-- the rows of a Set Features
abbrev pub set_feature_rows : State → ℕ → FeatureSetting → List Row
set_feature_rows s c x = supported_rows s c x.fid (set_rows s c x)

-- ---- replies

-- what can be done with a feature: save it (bit 0), give each namespace a value of its own (bit 1), change it (bit 2)
abbrev pub capabilities : FeatureRule → Feature → ℕ
capabilities rule f =
    (if rule.saveable then 1 else 0) + (if (row_of f).per_namespace then 2 else 0)
    + (if rule.changeable then 4 else 0)

-- what a select names: the current value, the default, the saved one, or the capabilities
abbrev pub selected : FeatureRule → Feature → ℕ → ℕ → FeatureValue → ℕ
selected rule f sel selector x =
    if sel == 0 then x.current
    else if sel == 1 then default_of rule selector
    else if sel == 2 then unwrap_or x.saved (default_of rule selector)
    else capabilities rule f

-- what a select names for a controller's feature, under a selector
abbrev pub value_under : ℕ → Feature → ℕ → ℕ → Controller → ℕ
value_under selector f sel n x = option_map_or (selected (rule_of x.rules f) f sel selector)
    (map_of.get x.values (key_of f n selector)) 0

-- what a select names for a controller's feature, under the selector in CDW11
abbrev pub asked_value : FeatureQuery → Feature → Controller → ℕ
asked_value q f x =
    if is_get_selector f q.cdw11 then value_under (selector_in f q.cdw11) f q.sel q.nsid x else 0

-- the number that a Get Features returns
abbrev pub feature_number : State → ℕ → FeatureQuery → ℕ
feature_number s c q =
    option_map_or (λ f. option_map_or (asked_value q f) (controller_at s c) 0) (feature_of q.fid) 0

-- ---- effects

-- the NSIDs whose values a Set changes
abbrev pub changed_nsids : State → ℕ → ℕ → Feature → List ℕ
changed_nsids s c n f = if (row_of f).per_namespace then concerned s c n else 0 ∷ []

-- a Set with this dword is for the selector
abbrev pub is_set : Feature → ℕ → ℕ → Bool
is_set f dword selector = list_any (λ x. x == selector) (selectors_set f dword)

-- if a Set is for the key's selector, an existing value is overwritten by the part of the dword
-- that is stored
abbrev pub write : Feature → ℕ → Bool → Change
write f dword save k old =
    if is_set f dword k.selector then option_map (written (stored f dword) save) old else old

-- a Set for one NSID, and for each of several
abbrev pub with_value : Feature → ℕ → Bool → FeatureValues → ℕ → FeatureValues
with_value f value save values n = changed (write f value save) (keys_of f n) values

-- a controller after a Set for each of some NSIDs
abbrev pub with_values : Feature → ℕ → Bool → List ℕ → Controller → Controller
with_values f value save ns x =
    record x { values = fold (with_value f value save) x.values ns }

-- the state after a Set Features
abbrev pub with_feature : State → ℕ → FeatureSetting → State
with_feature s c x =
    option_map_or
    (λ f. with_controller s c (with_values f x.value x.save (changed_nsids s c x.nsid f)))
    (feature_of x.fid) s
