-- The long names of the options, which are also clap's ids, and the value of an option that isn't given.
use Rattle.std.specs.Prelude.{ℕ, Bool, not, ◌&&◌, is_none, if◌then◌else◌, Option, codes}
use Rattle.std.specs.Option.{option_or}
use Rattle.nv_line.specs.declared.device.Device.{Device}
use Rattle.nv_line.specs.declared.option.NumberOption.{NumberOption}
use Rattle.clap.specs.Words.{Text}
use Rattle.nv_line.specs.declared.option.OptionName.{OptionName}
use Rattle.nv_line.specs.declared.option.OptionName.TheVariants.{NamespaceId, All, Force, Nsze, Ncap}
use Rattle.nv_line.specs.declared.option.OptionName.TheVariants.{Flbas, Dps, Nmic, Controllers, Lbaf}
use Rattle.nv_line.specs.declared.option.OptionName.TheVariants.{Ses, Pi, Pil, Ms, FeatureId, Sel, Cdw11}
use Rattle.nv_line.specs.declared.option.OptionName.TheVariants.{Value, Save, LogEntries, OutputFormat}

-- an option that has no value if it isn't given
abbrev pub is_required : NumberOption → Bool
is_required o = not o.takes_path && is_none o.default

-- the value of an option that isn't given: the path's NSID if the option takes it, and otherwise the default
abbrev pub fallback_of : NumberOption → Device → Option ℕ
fallback_of o device = if o.takes_path then option_or device.nsid o.default else o.default

-- the name of each option
abbrev pub name_of : OptionName → Text
name_of NamespaceId = codes "namespace-id"
name_of All = codes "all"
name_of Force = codes "force"
name_of Nsze = codes "nsze"
name_of Ncap = codes "ncap"
name_of Flbas = codes "flbas"
name_of Dps = codes "dps"
name_of Nmic = codes "nmic"
name_of Controllers = codes "controllers"
name_of Lbaf = codes "lbaf"
name_of Ses = codes "ses"
name_of Pi = codes "pi"
name_of Pil = codes "pil"
name_of Ms = codes "ms"
name_of FeatureId = codes "feature-id"
name_of Sel = codes "sel"
name_of Cdw11 = codes "cdw11"
name_of Value = codes "value"
name_of Save = codes "save"
name_of LogEntries = codes "log-entries"
name_of OutputFormat = codes "output-format"
