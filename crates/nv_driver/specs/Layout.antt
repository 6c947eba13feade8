-- The layout of the host's memory: for each controller in turn its submission ring, its completion
-- ring and its page set, each in pages of its own.
use Rattle.std.specs.Prelude.{ℕ, ◌+◌, ◌*◌, List, map}
use Rattle.std.specs.Int.{div_ceil}
use Rattle.std.specs.List.{range_with_len}
use Rattle.nv_model.specs.Conditions.{greatest_limit}
use Rattle.nv_driver.specs.QueuePair.{QueuePair}
use Rattle.nv_driver.specs.declared.geometry.Geometry.{Geometry}

-- how many pages a ring takes, with slots of 64 bytes for submissions and of 16 bytes for
-- completions
unfoldable pub submission_pages : Geometry → ℕ
submission_pages g = div_ceil (64 * g.depth) g.page_size

-- how many pages a completion ring takes
unfoldable pub completion_pages : Geometry → ℕ
completion_pages g = div_ceil (16 * g.depth) g.page_size

-- the greatest length of a command's data in bytes
abbrev pub most_bytes : ℕ
most_bytes = 16384

-- how many pages `len` bytes of data lie in
abbrev pub data_count : Geometry → ℕ → ℕ
data_count g len = div_ceil (g.offset + len) g.page_size

-- the greatest number of pages for `most` bytes: one more if they begin inside a page, and two for
-- a PRP list that begins inside a page
abbrev pub pages_for : ℕ → ℕ → ℕ
pages_for most page_size = div_ceil most page_size + 3

-- the pages of one command
abbrev pub pages_of_command : ℕ → ℕ
pages_of_command = pages_for most_bytes

-- the pages of an entry that is passed through: for the greatest length that a controller transfers for one
abbrev pub pages_of_entry : ℕ → ℕ
pages_of_entry = pages_for greatest_limit

-- the pages of all outstanding commands
unfoldable pub set_pages : Geometry → ℕ
set_pages g = g.window * pages_of_command g.page_size

-- how many pages a queue pair takes
abbrev pub pair_pages : Geometry → ℕ
pair_pages g = submission_pages g + completion_pages g + set_pages g

-- the pages of all controllers
abbrev pub pages_of : Geometry → ℕ → ℕ
pages_of g controllers = controllers * pair_pages g

-- the queue pair of controller i before its first command
abbrev pub pair_of : Geometry → ℕ → QueuePair
pair_of g i = record {
  sq = i * pair_pages g * g.page_size;
  cq = (i * pair_pages g + submission_pages g) * g.page_size;
  depth = g.depth;
  number = 0;
  next_cid = 0;
  geometry = g;
  first_page = i * pair_pages g + submission_pages g + completion_pages g;
  page_count = set_pages g;
}

-- the queue pairs of all controllers before their first commands
abbrev pub pairs_of : Geometry → ℕ → List QueuePair
pairs_of g controllers = map (pair_of g) (range_with_len 0 controllers)
