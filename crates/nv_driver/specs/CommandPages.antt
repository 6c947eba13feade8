-- The pages of a command.
use Rattle.std.specs.Prelude.{◌≡◌, ◌≢◌, ℕ, ◌<◌, All, AllPairs, List, take, true}
use Rattle.std.specs.FinMap as map_of
use Rattle.std.specs.List.{fold}
use Rattle.nv_host.specs.PageSets.{IsOf, Pages}
use Rattle.nv_driver.specs.declared.command_pages.CommandPages.{CommandPages}

-- all pages of a command: the two for a list, and then those of its data
abbrev pub all_pages : CommandPages → List ℕ
all_pages p = take p.count p.numbers

-- pages in the range of a set that were in it, and are distinct
pub record AreTaken (s : Pages) (pages : List ℕ) : Type 0 where
  pub own : All (λ p. IsOf s.first s.count p) pages
  pub had : All (λ p. map_of.contains_key s.members p ≡ true) pages
  pub distinct : AllPairs (λ p q. p ≢ q) pages

-- a set without these pages
abbrev pub without : Pages → List ℕ → Pages
without s pages = record s { members = fold map_of.remove s.members pages }

-- the lowest pages of a set, in order
pub record AreLowest (s : Pages) (pages : List ℕ) : Type 0 where
  pub order : AllPairs (λ p q. p < q) pages
  pub lowest : All (λ p. (q : ℕ) → map_of.contains_key (without s pages).members q ≡ true → p < q) pages
