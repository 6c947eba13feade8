-- The value of a driver, by its fields, and what holds for them between two calls.
use Rattle.std.specs.Prelude.{◌≡◌, ℕ, ◌+◌, ◌-◌, ◌*◌, ◌/◌, ◌<◌, ◌≤◌, ◌^◌, All, List, length, map}
use Rattle.std.specs.Prelude.{slice_index_or, slice_set}
use Rattle.nv_host.specs.Pages.{PagedBytes}
use Rattle.nv_host.specs.PageSets.{Pages, all_of}
use Rattle.nv_driver.specs.Exchange.{after_one, after_some}
use Rattle.nv_driver.specs.Geometry.{IsGeometry}
use Rattle.nv_driver.specs.QueuePair.{QueuePair, renewed_pair}
use Rattle.nv_driver.specs.Layout.{pages_of_entry, pair_of, pairs_of, pages_of}
use Rattle.nv_driver.specs.Quiet.{IsQuiet, pair_value}
use Rattle.nv_driver.specs.Settled.{DriverValue, IsSettled}
use Rattle.nv_driver.specs.declared.geometry.Geometry.{Geometry}
use Rattle.nv_driver.specs.declared.queue_pair.QueuePair.{QueuePair as QueuePairFields}

-- how many pages a memory has
abbrev pub page_count : PagedBytes → ℕ
page_count mem = length mem.bytes / mem.page_size

-- the value of a driver of these parts
abbrev pub driver_value : Geometry → PagedBytes → List QueuePairFields → DriverValue
driver_value g mem pairs =
    record { geometry = g; pages = page_count mem; pairs = map pair_value pairs }

-- a driver that was brought up for this number of controllers, with `more` pages after theirs
abbrev pub driver_with : Geometry → ℕ → ℕ → DriverValue
driver_with g controllers more = record {
  geometry = g;
  pages = pages_of g controllers + more;
  pairs = pairs_of g controllers;
}

-- a driver without such pages
abbrev pub new_driver : Geometry → ℕ → DriverValue
new_driver g controllers =
    record { geometry = g; pages = pages_of g controllers; pairs = pairs_of g controllers }

-- after the pages of its controllers, there are those of an entry that is passed through
abbrev pub HasEntryPages : DriverValue → Type 0
HasEntryPages d =
    pages_of d.geometry (length d.pairs) + pages_of_entry d.geometry.page_size ≤ d.pages

-- a queue pair is where it was first placed; only its number and its next command identifier change
abbrev pub IsPlaced : Geometry → ℕ → QueuePair → Type 0
IsPlaced g i l = l ≡ record (pair_of g i) { number = l.number; next_cid = l.next_cid }

-- all pages of a memory after those of its controllers
abbrev pub pages_behind : Geometry → (controllers pages : ℕ) → Pages
pages_behind g controllers pages = record {
  first = pages_of g controllers;
  count = pages - pages_of g controllers;
  members = all_of (pages_of g controllers) (pages - pages_of g controllers);
}

-- the queue pairs are where they were placed, without outstanding commands, in a memory of whole pages, of
-- which there are more behind them
pub record IsDriver (g : Geometry) (mem : PagedBytes) (pairs : List QueuePairFields) (rest : Pages) : Type 0 where
  pub geometry : IsGeometry g
  pub page_size : mem.page_size ≡ g.page_size
  pub whole : page_count mem * mem.page_size ≡ length mem.bytes
  pub numbered : page_count mem < 2 ^ 32
  pub quiet : All IsQuiet pairs
  pub placed : (i : ℕ) (d : QueuePair) → i < length pairs
      → IsPlaced g i (slice_index_or (map pair_value pairs) i d)
  pub settled : IsSettled mem.page_size mem.bytes (map pair_value pairs)
  pub more : rest ≡ pages_behind g (length pairs) (page_count mem)

-- ---- a command

-- a geometry whose fields are all 0
abbrev pub no_geometry : Geometry
no_geometry =
    record { depth = 0; page_size = 0; offset = 0; list_offset = 0; window = 0; pace = 0 }

-- the queue pair of a controller that a driver doesn't have
abbrev pub no_pair : QueuePair
no_pair = record {
  sq = 0;
  cq = 0;
  depth = 0;
  number = 0;
  next_cid = 0;
  geometry = no_geometry;
  first_page = 0;
  page_count = 0;
}

-- the queue pair of controller c
abbrev pub pair_at : List QueuePair → ℕ → QueuePair
pair_at pairs c = slice_index_or pairs c no_pair

-- the driver after a command of controller c, whose queue pair has the next number and the next
-- command identifier
abbrev pub after_command : DriverValue → ℕ → DriverValue
after_command d c = record d { pairs = slice_set d.pairs c (after_one (pair_at d.pairs c)) }

-- the driver after n commands of controller c
abbrev pub after_commands : DriverValue → ℕ → ℕ → DriverValue
after_commands d c n = record d { pairs = slice_set d.pairs c (after_some n (pair_at d.pairs c)) }

-- ---- a reset

-- the driver after a reset of controller c
abbrev pub after_reset : DriverValue → ℕ → DriverValue
after_reset d c = record d { pairs = slice_set d.pairs c (renewed_pair (pair_at d.pairs c)) }
