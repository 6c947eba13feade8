-- The meaning of a line: it is skipped, it asks for something, or it has a fault.
use Rattle.std.specs.Prelude.{ℕ, not, nat_lt, length, if◌then◌else◌, Option, None, Some, Result, Ok, Err}
use Rattle.std.specs.Option.{ok_or}
use Rattle.std.specs.Str.{is_utf8}
use Rattle.clap.specs.Words.{Text}
use Rattle.nv_layout.specs.Steps.{◌>>=◌}
use Rattle.nv_line.specs.Request.{IsQueryKnown, request_of}
use Rattle.nv_line.specs.Word.{is_skipped, without_nvme, words_of}
use Rattle.nv_line.specs.declared.fault.LineFault.{LineFault}
use Rattle.nv_line.specs.Verb.{verb_in}
use Rattle.nv_line.specs.declared.fault.LineFault.TheVariants.{NotText, TooLong, Usage}
use Rattle.nv_line.specs.declared.line.Line.{Line}
use Rattle.nv_line.specs.declared.line.Line.TheVariants as line
use Rattle.nv_line.specs.declared.verb.Verb.{Verb}
use Rattle.nv_line.specs.Word.{line_limit}

-- what is found before memory is used: the first fault, that the line is skipped, or else its command
abbrev pub begun : Text → Result (Option Verb) LineFault
begun text =
    if nat_lt line_limit (length text) then Err TooLong
    else (if is_skipped text then Ok None
    else (if not (is_utf8 text) then Err NotText
    else (do
      verb ← ok_or (verb_in (without_nvme (words_of text))) Usage
      Ok (Some verb))))

-- the meaning of a line of which this was found
abbrev pub reading_from : Text → ℕ → Option Verb → Result Line LineFault
reading_from text controllers None = Ok line.Skipped
reading_from text controllers (Some verb) = do
  request ← request_of controllers verb (without_nvme (words_of text))
  Ok (line.Request request)

-- the meaning of a line for so many controllers, with its faults in order
abbrev pub reading : Text → ℕ → Result Line LineFault
reading text controllers = begun text >>= reading_from text controllers

-- the line has one of these faults, or is skipped
abbrev pub NeedsNoMemory : Result (Option Verb) LineFault → Type 0
NeedsNoMemory (Ok None) = Unit {0}
NeedsNoMemory (Ok (Some verb)) = ⊥
NeedsNoMemory (Err fault) = Unit {0}

-- a request is for the subsystem's controllers
abbrev pub IsKnown : ℕ → Line → Type 0
IsKnown controllers line.Skipped = Unit {0}
IsKnown controllers (line.Request request) = IsQueryKnown controllers request.query
