-- The options of the commands: a row for each, and which of them a command takes.
use Prim.Native.Char.{Char, code}
use Rattle.std.specs.Prelude.{ℕ, true, false, List as ListOf, [], ◌∷◌, Some, None}
use Rattle.nv_line.specs.declared.option.CommandOption.{CommandOption}
use Rattle.nv_line.specs.declared.option.CommandOption.TheVariants.{Flag, Number, List, Format}
use Rattle.nv_line.specs.declared.option.FlagOption.{FlagOption}
use Rattle.nv_line.specs.declared.option.FormatOption.{FormatOption}
use Rattle.nv_line.specs.declared.option.ListOption.{ListOption}
use Rattle.nv_line.specs.declared.option.NumberOption.{NumberOption}
use Rattle.nv_line.specs.declared.option.OptionName.{OptionName}
use Rattle.nv_line.specs.declared.option.OptionName.TheVariants.{NamespaceId, All, Force, Nsze}
use Rattle.nv_line.specs.declared.option.OptionName.TheVariants.{Ncap, Flbas, Dps}
use Rattle.nv_line.specs.declared.option.OptionName.TheVariants.{Nmic, Controllers, Lbaf, Ses, Pi}
use Rattle.nv_line.specs.declared.option.OptionName.TheVariants.{Pil, Ms}
use Rattle.nv_line.specs.declared.option.OptionName.TheVariants.{FeatureId, Sel, Cdw11, Value, Save}
use Rattle.nv_line.specs.declared.option.OptionName.TheVariants.{LogEntries, OutputFormat}
use Rattle.nv_line.specs.declared.verb.DeviceVerb.{DeviceVerb}
use Rattle.nv_line.specs.declared.verb.DeviceVerb.TheVariants as verb
use Rattle.nv_line.specs.declared.verb.Verb.{Verb}
use Rattle.nv_line.specs.declared.verb.Verb.TheVariants as any

-- a required option, with its letter, its long name, and the least and the greatest number
abbrev pub needed : Char → OptionName → ℕ → ℕ → NumberOption
needed letter name least most = record {
  name = name;
  letter = code letter;
  least = least;
  most = most;
  takes_path = false;
  default = None;
}

-- an option with a default
abbrev pub optional : Char → OptionName → ℕ → ℕ → ℕ → NumberOption
optional letter name least most default =
    record (needed letter name least most) { default = Some default }

-- an option whose default is the NSID of the device path, if there is one
abbrev pub by_path : NumberOption → NumberOption
by_path o = record o { takes_path = true }

-- a flag, with its letter and its long name
abbrev pub flag : Char → OptionName → FlagOption
flag letter name = record { name = name; letter = code letter }

-- ---- the rows

-- the NSID of a namespace; the path may have it instead
abbrev pub nsid_option : NumberOption
nsid_option = by_path (needed "n" NamespaceId 0 4294967295)

-- the NSID at which a list begins, by default 1
abbrev pub first_nsid_option : NumberOption
first_nsid_option = optional "n" NamespaceId 1 4294967295 1

-- asks for the allocated namespaces, attached or not
abbrev pub all_option : FlagOption
all_option = flag "a" All

-- asks for a namespace even if it isn't attached
abbrev pub force_option : FlagOption
force_option = flag "f" Force

-- NSZE of a new namespace
abbrev pub nsze_option : NumberOption
nsze_option = optional "s" Nsze 0 18446744073709551615 0

-- NCAP of a new namespace
abbrev pub ncap_option : NumberOption
ncap_option = optional "c" Ncap 0 18446744073709551615 0

-- FLBAS of a new namespace
abbrev pub flbas_option : NumberOption
flbas_option = optional "f" Flbas 0 255 0

-- DPS of a new namespace
abbrev pub dps_option : NumberOption
dps_option = optional "d" Dps 0 255 0

-- NMIC of a new namespace
abbrev pub nmic_option : NumberOption
nmic_option = optional "m" Nmic 0 255 0

-- the controllers to which a namespace is attached or from which it is detached
abbrev pub controllers_option : ListOption
controllers_option = record { name = Controllers; letter = code "c" }

-- the index of a format
abbrev pub lbaf_option : NumberOption
lbaf_option = needed "l" Lbaf 0 15

-- SES, the secure erase settings of a format
abbrev pub ses_option : NumberOption
ses_option = optional "s" Ses 0 7 0

-- PI, the protection information of a format
abbrev pub pi_option : NumberOption
pi_option = optional "i" Pi 0 7 0

-- PIL, the location of protection information
abbrev pub pil_option : NumberOption
pil_option = optional "p" Pil 0 1 0

-- MSET, the metadata settings of a format
abbrev pub ms_option : NumberOption
ms_option = optional "m" Ms 0 1 0

-- the NSID for a feature; the path may have it instead, and the default is 0
abbrev pub feature_nsid_option : NumberOption
feature_nsid_option = by_path (optional "n" NamespaceId 0 4294967295 0)

-- the identifier of a feature
abbrev pub feature_id_option : NumberOption
feature_id_option = needed "f" FeatureId 0 255

-- SEL of a Get Features
abbrev pub sel_option : NumberOption
sel_option = optional "s" Sel 0 7 0

-- CDW11 of a Get Features
abbrev pub cdw11_option : NumberOption
cdw11_option = optional "c" Cdw11 0 4294967295 0

-- the value of a Set Features
abbrev pub value_option : NumberOption
value_option = needed "v" Value 0 4294967295

-- asks for the value to be saved too
abbrev pub save_option : FlagOption
save_option = flag "s" Save

-- the NSID for the health log, by default the broadcast NSID
abbrev pub smart_nsid_option : NumberOption
smart_nsid_option = optional "n" NamespaceId 0 4294967295 4294967295

-- how many entries of the error log are asked for, by default 64
abbrev pub log_entries_option : NumberOption
log_entries_option = optional "e" LogEntries 1 4294967295 64

-- the format of the output
abbrev pub output_format_option : FormatOption
output_format_option = record { name = OutputFormat; letter = code "o" }

-- ---- the options of a command, in order

-- the options of each command that takes a device
abbrev pub device_options_of : DeviceVerb → ListOf CommandOption
device_options_of verb.IdCtrl = Format output_format_option ∷ []
device_options_of verb.IdNs = Number nsid_option ∷ Flag force_option ∷ Format output_format_option ∷ []
device_options_of verb.ListNs = Number first_nsid_option ∷ Flag all_option ∷ Format output_format_option ∷ []
device_options_of verb.CreateNs =
    Number nsze_option ∷ Number ncap_option ∷ Number flbas_option ∷ Number dps_option ∷ Number nmic_option ∷ []
device_options_of verb.AttachNs = Number nsid_option ∷ List controllers_option ∷ []
device_options_of verb.DetachNs = Number nsid_option ∷ List controllers_option ∷ []
device_options_of verb.DeleteNs = Number nsid_option ∷ []
device_options_of verb.Format =
    Number nsid_option ∷ Number lbaf_option ∷ Number ses_option
    ∷ Number pi_option ∷ Number pil_option ∷ Number ms_option ∷ []
device_options_of verb.GetFeature =
    Number feature_nsid_option ∷ Number feature_id_option ∷ Number sel_option ∷ Number cdw11_option ∷ []
device_options_of verb.SetFeature =
    Number feature_nsid_option ∷ Number feature_id_option ∷ Number value_option ∷ Flag save_option ∷ []
device_options_of verb.SmartLog = Number smart_nsid_option ∷ Format output_format_option ∷ []
device_options_of verb.ErrorLog = Number log_entries_option ∷ Format output_format_option ∷ []
device_options_of verb.Reset = []

-- the options of each command; `list` takes only the output format
abbrev pub options_of : Verb → ListOf CommandOption
options_of (any.Of v) = device_options_of v
options_of any.List = Format output_format_option ∷ []
