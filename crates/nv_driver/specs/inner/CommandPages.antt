-- The pages that a command returns.
use Rattle.std.specs.Prelude.{ℕ, List}
use Rattle.std.specs.List.{fold}
use Rattle.nv_host.specs.PageSets.{Pages, insert}

-- a set with these pages
abbrev pub with_pages : Pages → List ℕ → Pages
with_pages s pages = record s { members = fold insert s.members pages }
