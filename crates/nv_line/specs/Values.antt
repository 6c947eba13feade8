-- The values of the texts of options.
use Rattle.std.specs.Prelude.{ℕ, Bool, ◌==◌, nat_le, length, if◌then◌else◌, List, [], ◌∷◌, Option, Some}
use Rattle.std.specs.Prelude.{None, option_and_then, option_map, not, ◌||◌, ◌&&◌, nat_lt, drop}
use Rattle.std.specs.Prelude.{slice_index, false, Result, Ok, Err, codes}
use Rattle.std.specs.List.{slice_split, list_all}
use Rattle.std.specs.Str.Parse.{digits_value}
use Rattle.std.specs.Char.{digit_value}
use Rattle.std.specs.Option.{ok_or, option_map_or}
use Rattle.std.specs.Str.{bytes_eq}
use Rattle.clap.specs.Words.{Text, Row, first_of}
use Rattle.nv_layout.specs.Limits.{most_cntlids}
use Rattle.clap.specs.Walk.{is_empty}
use Rattle.nv_line.specs.OptionName.{fallback_of, name_of}
use Rattle.nv_line.specs.declared.device.Device.{Device}
use Rattle.nv_line.specs.declared.fault.LineFault.{LineFault}
use Rattle.nv_line.specs.declared.fault.LineFault.TheVariants as fault
use Rattle.nv_line.specs.declared.option.FlagOption.{FlagOption}
use Rattle.nv_line.specs.declared.option.FormatOption.{FormatOption}
use Rattle.nv_line.specs.declared.option.ListOption.{ListOption}
use Rattle.nv_line.specs.declared.option.NumberOption.{NumberOption}
use Rattle.nv_line.specs.declared.output_format.OutputFormat.{OutputFormat}
use Rattle.nv_line.specs.declared.output_format.OutputFormat.TheVariants.{Normal, Json}

-- whether a byte is a comma
abbrev pub is_comma : ℕ → Bool
is_comma b = b == 44

-- the number that is written in these digits of a base: at least one digit, and no sign
unfoldable pub digits_of : ℕ → Text → Option ℕ
digits_of base ds = if not (is_empty ds) && list_all (λ d. nat_lt (digit_value d) base) ds
    then Some (digits_value base ds) else None

-- 0x or 0X and hexadecimal digits, 0 and octal digits, or decimal digits
abbrev pub number_of : Text → Option ℕ
number_of text =
    if slice_index text 0 == 48 && nat_lt 1 (length text)
    then (if slice_index text 1 == 120 || slice_index text 1 == 88
    then digits_of 16 (drop 2 text) else digits_of 8 (drop 1 text))
    else digits_of 10 text

-- a number, if it is from `least` to `most`
abbrev pub within : ℕ → ℕ → ℕ → Option ℕ
within least most n = if nat_le least n && nat_le n most then Some n else None

-- a number in a range
abbrev pub number_in : ℕ → ℕ → Text → Option ℕ
number_in least most text = option_and_then (within least most) (number_of text)

-- the identifiers in pieces that are numbers of 16 bits
unfoldable pub identifiers_in : List Text → Option (List ℕ)
identifiers_in [] = Some []
identifiers_in (piece ∷ pieces) =
    option_and_then (λ n. option_map (λ ns. n ∷ ns) (identifiers_in pieces))
    (number_in 0 65535 piece)

-- the identifiers in a text with commas between them, if a list has room for them
unfoldable pub list_in : Text → Option (List ℕ)
list_in text =
    let pieces = slice_split is_comma text in
    if nat_le (length pieces) most_cntlids then identifiers_in pieces else None

-- decimal digits without leading zeros
abbrev pub decimal_number : Text → Option ℕ
decimal_number text =
    if slice_index text 0 == 48 && nat_lt 1 (length text) then None else digits_of 10 text

-- the number that is given, or its default; if there is none, it is a usage fault
abbrev pub number_option_in : List Row → NumberOption → Device → Result ℕ LineFault
number_option_in rows o device =
    option_map_or (λ t. ok_or (number_in o.least o.most t) (fault.Number o.name))
    (first_of (name_of o.name) rows) (ok_or (fallback_of o device) fault.Usage)

-- the identifiers that are given
abbrev pub list_option_in : List Row → ListOption → Result (List ℕ) LineFault
list_option_in rows o =
    option_map_or (λ t. ok_or (list_in t) (fault.Number o.name))
    (first_of (name_of o.name) rows) (Err fault.Usage)

-- whether the flag is given
abbrev pub flag_in : List Row → FlagOption → Bool
flag_in rows o =
    option_map_or (λ t. bytes_eq t (codes "true")) (first_of (name_of o.name) rows) false

-- the output format with this name
abbrev pub format_named : Text → Option OutputFormat
format_named name =
    if bytes_eq name (codes "normal") then Some Normal
    else (if bytes_eq name (codes "json") then Some Json else None)

-- the format that is given, or text; a name that isn't a format's is a usage fault
abbrev pub format_in : List Row → FormatOption → Result OutputFormat LineFault
format_in rows o =
    option_map_or (λ t. ok_or (format_named t) fault.Usage) (first_of (name_of o.name) rows)
    (Ok Normal)
