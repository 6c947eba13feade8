-- The program's command line for clap, and what clap finds in the arguments.
use Rattle.std.specs.Prelude.{Bool, List, fold, Some, Result, Ok, Err, codes, if◌then◌else◌}
use Rattle.clap.specs.Words.{App, Row, Rule, Text, fault_of, matches_of, new_app, new_rule}
use Rattle.clap.specs.Words.{with_rule}
use Rattle.clap.specs.Walk.{is_empty}
use Rattle.clap.specs.declared.builder.ArgAction.TheVariants.{Set}
use Rattle.nv_arguments.specs.ArgumentOption.{name_of, options}
use Rattle.nv_arguments.specs.declared.fault.ArgumentsFault.{ArgumentsFault}
use Rattle.nv_arguments.specs.declared.fault.ArgumentsFault.TheVariants.{Refused}
use Rattle.nv_arguments.specs.declared.option.ArgumentOption.{ArgumentOption}

-- `--name VALUE` or `--name=VALUE`
abbrev pub option_rule : ArgumentOption → Rule
option_rule o = record (new_rule (name_of o)) { long = Some (name_of o); action = Some Set }

-- an application with these options added
abbrev pub with_options : App → List ArgumentOption → App
with_options app os = fold (λ a o. with_rule a (option_rule o)) app os

-- the application of the program: its options, each of which takes a value
abbrev pub program : App
program = with_options (new_app (codes "nvme-script")) options

-- clap finds no fault in the words; the first of them is the program's name
unfoldable pub is_taken : List Text → Bool
is_taken words = is_empty (fault_of program words)

-- what clap finds then
unfoldable pub clap_rows : List Text → List Row
clap_rows words = matches_of program words

-- what clap finds in the words, or a refusal if it finds a fault
abbrev pub rows_of_words : List Text → Result (List Row) ArgumentsFault
rows_of_words words = if is_taken words then Ok (clap_rows words) else Err Refused
