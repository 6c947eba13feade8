-- A table of values of features, some of which are restored.
use Rattle.std.specs.Prelude.{◌≡◌, ℕ, ◌+◌, ◌&&◌, not, nat_lt, if◌then◌else◌, option_map}
use Rattle.std.specs.Option.{option_map_or}
use Rattle.std.specs.FinMap as map_of
use Rattle.nv_bits.specs.Numbers.{NumberMap}
use Rattle.nv_bits.specs.VecMap.{RangeMap}
use Rattle.nv_model.specs.Values.{restored}
use Rattle.nv_model.specs.declared.feature_value.FeatureValue.{FeatureValue}

-- what a number has is restored
abbrev pub restored_at : ℕ → NumberMap FeatureValue → ℕ → NumberMap FeatureValue
restored_at default table n =
    option_map_or (λ x. map_of.insert table n (restored default x)) (map_of.get table n) table

-- what each of the first numbers has is restored, with the number's default, and all else stays
pub record AreRestored (default : ℕ → ℕ) (numbers : ℕ) (old new : RangeMap FeatureValue) : Type 0 where
  pub first : new.first ≡ old.first
  pub count : new.count ≡ old.count
  pub values : (n : ℕ) → map_of.get new.values n
      ≡ (if not (nat_lt n old.first) && nat_lt n (old.first + numbers)
      then option_map (restored (default n)) (map_of.get old.values n)
      else map_of.get old.values n)
