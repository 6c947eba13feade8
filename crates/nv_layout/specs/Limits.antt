-- The greatest lengths of lists.
use Rattle.std.specs.Prelude.{ℕ}

-- the greatest number of controllers in a controller list
abbrev pub most_cntlids : ℕ
most_cntlids = 2047

-- the greatest number of namespaces in a namespace list
abbrev pub most_nsids : ℕ
most_nsids = 1024
