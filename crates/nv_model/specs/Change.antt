-- Values of features, changed at some of their keys.
use Rattle.std.specs.Prelude.{List, Option, map, if◌then◌else◌}
use Rattle.std.specs.List.{fold, list_any}
use Rattle.std.specs.Option.{option_map_or}
use Rattle.std.specs.FinMap as map_of
use Rattle.std.specs.Ordering.{eq_by_cmp}
use Rattle.std.specs.declared.cmp.Ordering.{Ordering}
use Rattle.nv_model.specs.Values.{FeatureValues, ValueKey}
use Rattle.nv_model.specs.declared.feature_value.FeatureValue.{FeatureValue}

-- the value of a key after a change, given the key and its value before
abbrev pub Change : Type 0
Change = ValueKey → Option FeatureValue → Option FeatureValue

-- changes the value of one key
abbrev pub changed_at : Change → FeatureValues → ValueKey → FeatureValues
changed_at change values k =
    option_map_or (map_of.insert values k) (change k (map_of.get values k)) (map_of.remove values k)

-- changes the value of each key of a list
abbrev pub changed : Change → List ValueKey → FeatureValues → FeatureValues
changed change keys values = fold (changed_at change) values keys

-- changes the values of some keys, if they have any
abbrev pub changed_at_keys : {K X : Type 0} {R : K → K → Ordering} → List K → (X → X)
    → map_of.FinMap R X
    → map_of.FinMap R X
changed_at_keys {R = R} keys change m = map_of.from_entries
    (map (λ e. (e.0, if list_any (eq_by_cmp R e.0) keys then change e.1 else e.1))
    (map_of.entries m))
