-- What the arguments ask for.
use Rattle.std.specs.Prelude.{ℕ, List, Option, Result, Ok, option_map}
use Rattle.std.specs.Option.{ok_or, option_map_or}
use Rattle.clap.specs.Words.{Row, Text, first_of}
use Rattle.nv_line.specs.Values.{number_in}
use Rattle.nv_driver.specs.declared.geometry.Geometry.{Geometry}
use Rattle.nv_arguments.specs.ArgumentOption.{name_of}
use Rattle.nv_layout.specs.Steps.{◌>>=◌}
use Rattle.nv_arguments.specs.ClapRule.{rows_of_words}
use Rattle.nv_arguments.specs.declared.arguments.Arguments.{Arguments}
use Rattle.nv_arguments.specs.declared.fault.ArgumentsFault.{ArgumentsFault}
use Rattle.nv_arguments.specs.declared.fault.ArgumentsFault.TheVariants.{Refused}
use Rattle.nv_arguments.specs.declared.option.ArgumentOption.{ArgumentOption}
use Rattle.nv_arguments.specs.declared.option.ArgumentOption.TheVariants as option

-- the 32-bit number that is given for an option, or the default
abbrev pub number_of : List Row → ArgumentOption → ℕ → Result ℕ ArgumentsFault
number_of rows o default =
    option_map_or (λ t. ok_or (number_in 0 4294967295 t) Refused) (first_of (name_of o) rows)
    (Ok default)

-- the geometry that the options give; the driver checks its limits
abbrev pub geometry_of : List Row → Result Geometry ArgumentsFault
geometry_of rows = do
  depth ← number_of rows option.Depth 32
  page_size ← number_of rows option.PageSize 4096
  offset ← number_of rows option.Offset 0
  list_offset ← number_of rows option.ListOffset 0
  window ← number_of rows option.Window 1
  pace ← number_of rows option.Pace 1
  Ok (record {
    depth = depth;
    page_size = page_size;
    offset = offset;
    list_offset = list_offset;
    window = window;
    pace = pace;
  })

-- a path, and a geometry
pub record Chosen : Type 0 where
  pub subsystem : Option Text
  pub geometry : Geometry

-- what these arguments tell: their path as text, if there is one, and their geometry
abbrev pub chosen_by : Arguments → Chosen
chosen_by arguments = record {
  subsystem = option_map (λ path. path.now) arguments.subsystem;
  geometry = arguments.geometry;
}

-- what the words ask for; the first of them is the program's name
abbrev pub arguments_of : List Text → Result Chosen ArgumentsFault
arguments_of words = do
  rows ← rows_of_words words
  geometry ← geometry_of rows
  Ok (record { subsystem = first_of (name_of option.Subsystem) rows; geometry = geometry })
