-- What a driver's commands need of a queue pair, and what they leave behind.
use Rattle.std.specs.Prelude.{◌≡◌, ℕ, ◌+◌, ◌%◌, ◌<◌, List, length}
use Rattle.nv_queue.specs.Numbers.{kept_number, next}
use Rattle.nv_queue.specs.Slots.{HoldsTags}
use Rattle.nv_model.specs.Step.{cid_after}
use Rattle.nv_model.specs.Ranges.{cid_count}
use Rattle.nv_bus.specs.Bus.{BusValue, IsBus, bank_at}
use Rattle.nv_driver.specs.Geometry.{IsGeometry}
use Rattle.nv_driver.specs.QueuePair.{IsLaid, QueuePair, idle_bank}
use Rattle.nv_driver.specs.Quiet.{IsQuiet, pair_value}
use Rattle.nv_driver.specs.Registers.{mps_of}
use Rattle.nv_driver.specs.declared.geometry.Geometry.{Geometry}
use Rattle.nv_driver.specs.declared.queue_pair.QueuePair.{QueuePair as QueuePairFields}

-- controller c of a bus and its queue pair of this geometry without outstanding commands, in a memory
-- with the phase tags that are due
pub record IsReady (g : Geometry) (b : BusValue) (c : ℕ) (l : QueuePairFields) (now : ℕ)
    (bytes : List ℕ) : Type 0 where
  pub geometry : IsGeometry g
  pub shape : l.geometry ≡ g
  pub page_size : now ≡ g.page_size
  pub depth : l.submission.depth ≡ g.depth
  pub quiet : IsQuiet l
  pub laid : IsLaid g.page_size (length bytes) (pair_value l)
  pub tags : HoldsTags bytes l.completion.base l.submission.depth l.submission.submitted
  pub controller : c < length b.banks
  pub bus : IsBus b
  pub bank : bank_at b.banks c ≡ idle_bank (mps_of g.page_size) g.page_size (pair_value l)

-- the queue pair after a command
abbrev pub after_one : QueuePair → QueuePair
after_one l = record l { number = next l.depth l.number; next_cid = cid_after l.next_cid }

-- the queue pair after n commands
abbrev pub after_some : ℕ → QueuePair → QueuePair
after_some n l =
    record l { number = kept_number l.depth (l.number + n); next_cid = (l.next_cid + n) % cid_count }
