-- Get Features and Set Features are read back from their entries.
use Rattle.std.proofs.Common.{rules, arith}
use Rattle.nv_command.proofs.EntryLaws.{FieldsFit, IsDecoded}
use Rattle.nv_command.specs.Features.{GetFeatureFits, SetFeatureFits}
use Rattle.nv_command.specs.Form.{get_feature_fields, set_feature_fields}
use Rattle.nv_command.specs.declared.command.Command.TheVariants.{GetFeature, SetFeature}
use Rattle.nv_command.specs.declared.features.FeatureQuery.{FeatureQuery}
use Rattle.nv_command.specs.declared.features.FeatureSetting.{FeatureSetting}

-- the fields of the entry of a Get Features that fits fit their bits
pub get_feature_fits : (q : FeatureQuery) → GetFeatureFits q → FieldsFit (get_feature_fields q)
get_feature_fits q fits = search (rules, arith, fits)

-- the fields of the entry of a Set Features that fits fit their bits
pub set_feature_fits : (x : FeatureSetting) → SetFeatureFits x → FieldsFit (set_feature_fields x)
set_feature_fits x fits = search (rules, arith, fits)

-- the entry of a Get Features that fits is decoded to that command
pub get_feature_back : (q : FeatureQuery) → GetFeatureFits q → IsDecoded (GetFeature q)
get_feature_back q fits cid prp1 prp2 = search rules

-- the entry of a Set Features that fits is decoded to that command
pub set_feature_back : (x : FeatureSetting) → SetFeatureFits x → IsDecoded (SetFeature x)
set_feature_back x fits cid prp1 prp2 = search rules
