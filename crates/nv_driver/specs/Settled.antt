-- The value of a driver, and what its memory holds between two calls.
use Rattle.std.specs.Prelude.{ℕ, ◌+◌, ◌*◌, ◌<◌, ◌≤◌, List, length, slice_index_or}
use Rattle.nv_queue.specs.Slots.{HoldsTags}
use Rattle.nv_driver.specs.QueuePair.{IsLaid, QueuePair}
use Rattle.nv_driver.specs.declared.geometry.Geometry.{Geometry}

-- its geometry, how many pages its memory has, and each controller's queue pair
pub record DriverValue : Type 0 where
  pub geometry : Geometry
  pub pages : ℕ
  pub pairs : List QueuePair

-- where a queue pair's pages end
abbrev pub end_of : ℕ → QueuePair → ℕ
end_of page_size l = (l.first_page + l.page_count) * page_size

-- each queue pair lies in the memory, and its completion slots have the phase tags that are due;
-- the queue pairs come one after another
pub record IsSettled (page_size : ℕ) (bytes : List ℕ) (pairs : List QueuePair) : Type 0 where
  pub laid : (i : ℕ) (d : QueuePair) → i < length pairs → IsLaid page_size (length bytes)
      (slice_index_or pairs i d)
  pub tags : (i : ℕ) (d : QueuePair) → i < length pairs
      → let l = slice_index_or pairs i d in HoldsTags bytes l.cq l.depth l.number
  pub apart : (i j : ℕ) (d : QueuePair) → i < j → j < length pairs
      → end_of page_size (slice_index_or pairs i d) ≤ (slice_index_or pairs j d).sq
