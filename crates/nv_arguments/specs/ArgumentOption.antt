-- The options of the program, by their names after `--`, which are also clap's ids.
use Rattle.std.specs.Prelude.{List, [], ◌∷◌, codes}
use Rattle.clap.specs.Words.{Text}
use Rattle.nv_arguments.specs.declared.option.ArgumentOption.{ArgumentOption}
use Rattle.nv_arguments.specs.declared.option.ArgumentOption.TheVariants.{Subsystem, Depth}
use Rattle.nv_arguments.specs.declared.option.ArgumentOption.TheVariants.{PageSize, Offset}
use Rattle.nv_arguments.specs.declared.option.ArgumentOption.TheVariants.{ListOffset, Window, Pace}

-- the name of each option
abbrev pub name_of : ArgumentOption → Text
name_of Subsystem = codes "subsystem"
name_of Depth = codes "depth"
name_of PageSize = codes "page-size"
name_of Offset = codes "offset"
name_of ListOffset = codes "list-offset"
name_of Window = codes "window"
name_of Pace = codes "pace"

-- all options of the program
abbrev pub options : List ArgumentOption
options = Subsystem ∷ Depth ∷ PageSize ∷ Offset ∷ ListOffset ∷ Window ∷ Pace ∷ []
