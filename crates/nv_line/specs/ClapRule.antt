-- The commands for clap, and what clap finds in a command line.
use Rattle.std.specs.Prelude.{◌≡◌, ◌⊎◌, ℕ, Bool, true, false, List, fold, Some, Result, Ok, Err, codes}
use Rattle.std.specs.Prelude.{if◌then◌else◌}
use Rattle.clap.specs.Words.{App, Row, Rule, Text, app_of, built, fault_of, is_broken, matches_of}
use Rattle.clap.specs.Words.{new_app, new_rule, with_rule}
use Rattle.clap.specs.Walk.{is_empty}
use Rattle.clap.specs.declared.builder.ArgAction.{ArgAction}
use Rattle.clap.specs.declared.builder.ArgAction.TheVariants.{Set, SetTrue}
use Rattle.nv_line.specs.OptionName.{is_required}
use Rattle.nv_line.specs.OptionName.{name_of}
use Rattle.nv_line.specs.Options.{options_of}
use Rattle.nv_line.specs.Verb.{word_of}
use Rattle.nv_line.specs.declared.clap_rule.MadeCommand.{MadeCommand}
use Rattle.nv_line.specs.declared.fault.LineFault.{LineFault}
use Rattle.nv_line.specs.declared.fault.LineFault.TheVariants.{Usage}
use Rattle.nv_line.specs.declared.option.CommandOption.{CommandOption}
use Rattle.nv_line.specs.declared.option.CommandOption.TheVariants.{Flag, Number, Format}
use Rattle.nv_line.specs.declared.option.CommandOption.TheVariants.{List as ListOf}
use Rattle.nv_line.specs.declared.option.OptionName.{OptionName}
use Rattle.nv_line.specs.declared.verb.Verb.{Verb}
use Rattle.nv_line.specs.declared.verb.Verb.TheVariants as verb

-- the rule of an option with a long name and a letter
abbrev pub rule_for : OptionName → ℕ → ArgAction → Bool → Rule
rule_for name letter action required = record (new_rule (name_of name)) {
  long = Some (name_of name);
  short = Some letter;
  action = Some action;
  required = required;
}

-- a flag takes no value; any other option takes one
abbrev pub option_rule : CommandOption → Rule
option_rule (Flag o) = rule_for o.name o.letter SetTrue false
option_rule (Number o) = rule_for o.name o.letter Set (is_required o)
option_rule (ListOf o) = rule_for o.name o.letter Set true
option_rule (Format o) = rule_for o.name o.letter Set false

-- the rule of the device, which is required
abbrev pub device_rule : Rule
device_rule = record (new_rule (codes "device")) { required = true }

-- `-h` and `--help` are no options
abbrev pub without_help : App → App
without_help a = record a { top = record a.top { disable_help_flag = true } }

-- a command without its options: all but `list` take a device
abbrev pub bare_app : Verb → App
bare_app (verb.Of v) = with_rule (without_help (new_app (word_of (verb.Of v)))) device_rule
bare_app verb.List = without_help (new_app (word_of verb.List))

-- a command with these options added
abbrev pub with_options : App → List CommandOption → App
with_options app options = fold (λ a o. with_rule a (option_rule o)) app options

-- the application of a command word
abbrev pub app_for : Verb → App
app_for v = with_options (bare_app v) (options_of v)

-- the clap command of a command word, before its first use or after it
abbrev pub IsAppOf : Verb → App → Type 0
IsAppOf v a = (a ≡ app_for v) ⊎ (a ≡ built (app_for v))

-- the clap command of the word exists, or memory was refused, and will be from then on
abbrev pub IsMade : MadeCommand → Type 0
IsMade c = (is_broken c.command ≡ true) ⊎ IsAppOf c.verb (app_of c.command)

-- clap finds no fault in the words; the first of them is the command word
unfoldable pub is_taken : Verb → List Text → Bool
is_taken verb words = is_empty (fault_of (app_for verb) words)

-- what clap finds then
unfoldable pub clap_rows : Verb → List Text → List Row
clap_rows verb words = matches_of (app_for verb) words

-- what clap finds in the words, or a usage fault
abbrev pub rows_of_words : Verb → List Text → Result (List Row) LineFault
rows_of_words verb words = if is_taken verb words then Ok (clap_rows verb words) else Err Usage
