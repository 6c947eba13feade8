-- The words of a line, and the limits of its length and of an NSID.
use Rattle.std.specs.Prelude.{ℕ, Bool, true, not, ◌||◌, ◌==◌, List, [], ◌∷◌, codes, if◌then◌else◌, find}
use Rattle.std.specs.List.{filter, slice_split}
use Rattle.std.specs.Option.{option_map_or}
use Rattle.std.specs.Str.{bytes_eq}
use Rattle.clap.specs.Words.{Text}
use Rattle.clap.specs.Walk.{is_empty}

-- the greatest length of a line in bytes, without its newline
abbrev pub line_limit : ℕ
line_limit = 4095

-- the greatest NSID
abbrev pub nsid_limit : ℕ
nsid_limit = 4294967295

-- a space or a tab
abbrev pub is_blank : ℕ → Bool
is_blank b = b == 32 || b == 9

-- the pieces between spaces and tabs
abbrev pub words_of : Text → List Text
words_of line = filter (λ w. not (is_empty w)) (slice_split is_blank line)

-- the words without a first word `nvme`
abbrev pub without_nvme : List Text → List Text
without_nvme [] = []
without_nvme (w ∷ rest) = if bytes_eq w (codes "nvme") then rest else w ∷ rest

-- blank, or the first byte that is no space or tab is #
abbrev pub is_skipped : Text → Bool
is_skipped line = option_map_or (λ b. b == 35) (find (λ b. not (is_blank b)) line) true
