-- Get Features (opcode 0Ah) and Set Features (opcode 09h): CDW10 7:0 is the feature identifier. For
-- a Get, CDW10 10:8 selects the value, and CDW11 belongs to the feature; for a Set, CDW11 is the
-- value, and CDW10 bit 31 says whether it is also saved.
use Rattle.std.specs.Prelude.{◌^◌, ◌<◌, ◌==◌}
use Rattle.nv_layout.specs.Bits.{bits}
use Rattle.nv_layout.specs.declared.sqe.Sqe.{Sqe}
use Rattle.nv_command.specs.declared.command.Command.{Command}
use Rattle.nv_command.specs.declared.command.Command.TheVariants.{GetFeature, SetFeature}
use Rattle.nv_command.specs.declared.features.FeatureQuery.{FeatureQuery}
use Rattle.nv_command.specs.declared.features.FeatureSetting.{FeatureSetting}

-- the parameters of a Get Features fit their bits
pub record GetFeatureFits (q : FeatureQuery) : Type 0 where
  pub fid : q.fid < 2 ^ 8
  pub sel : q.sel < 2 ^ 3
  pub nsid : q.nsid < 2 ^ 32
  pub cdw11 : q.cdw11 < 2 ^ 32

-- the parameters of a Set Features fit their bits
pub record SetFeatureFits (x : FeatureSetting) : Type 0 where
  pub fid : x.fid < 2 ^ 8
  pub value : x.value < 2 ^ 32
  pub nsid : x.nsid < 2 ^ 32

-- every entry is a valid Get or Set; its other bits are ignored
abbrev pub get_feature_command : Sqe → Command
get_feature_command e = GetFeature (record {
  fid = bits 0 8 e.cdw10;
  sel = bits 8 3 e.cdw10;
  nsid = e.nsid;
  cdw11 = e.cdw11;
})

-- every entry is a valid Set; its other bits are ignored
abbrev pub set_feature_command : Sqe → Command
set_feature_command e = SetFeature (record {
  fid = bits 0 8 e.cdw10;
  value = e.cdw11;
  save = bits 31 1 e.cdw10 == 1;
  nsid = e.nsid;
})
