-- The tables that hold the values of features.
use Rattle.std.specs.Prelude.{◌≡◌, ℕ, ◌*◌, ◌/◌, ◌%◌, List, map, ◌++◌, true, None}
use Rattle.std.specs.FinMap as map_of
use Rattle.nv_bits.specs.Numbers.{IsOf, NumberMap}
use Rattle.nv_bits.specs.VecMap.{RangeMap}
use Rattle.nv_layout.specs.Feature.{row_of}
use Rattle.nv_layout.specs.declared.feature.Feature.TheVariants.{ErrorRecovery}
use Rattle.nv_model.specs.Values.{FeatureValues, ValueKey, recovery_key}
use Rattle.nv_model.specs.declared.feature_value.FeatureValue.{FeatureValue}

-- the values of features, and the greatest NSID
pub record ValueTable : Type 0 where
  pub nn : ℕ
  pub values : FeatureValues

-- the table by feature and selector has a row for each feature identifier below 12, of the
-- selectors below 32
abbrev pub key_at : ℕ → ValueKey
key_at place = record { fid = place / 32; nsid = 0; selector = place % 32 }

-- what a table has, each value under its key
abbrev pub keyed : (ℕ → ValueKey) → NumberMap FeatureValue → List (ValueKey × FeatureValue)
keyed key table = map (λ e. (key e.0, e.1)) (map_of.entries table)

-- the values of both tables: Error Recovery's by NSID, all others by feature and selector
abbrev pub values_of : NumberMap FeatureValue → NumberMap FeatureValue → FeatureValues
values_of by_nsid by_feature =
    map_of.from_entries (keyed recovery_key by_nsid ++ keyed key_at by_feature)

-- a slot for each of so many numbers from the least one on, and values there alone
pub record IsOver (least numbers : ℕ) (table : RangeMap FeatureValue) : Type 0 where
  pub first : table.first ≡ least
  pub count : table.count ≡ numbers
  pub within : (n : ℕ) → map_of.contains_key table.values n ≡ true → IsOf least numbers n

-- one table has the NSIDs from 1 on, and the other all rows, where that of Error Recovery is empty
pub record AreTables (by_nsid by_feature : RangeMap FeatureValue) : Type 0 where
  pub nsids : IsOver 1 by_nsid.count by_nsid
  pub rows : IsOver 0 (12 * 32) by_feature
  pub apart : map_of.get by_feature.values ((row_of ErrorRecovery).fid * 32) ≡ None
