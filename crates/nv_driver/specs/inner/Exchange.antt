-- What a driver's calls leave behind: what no public contract reaches.
use Rattle.std.specs.Prelude.{◌≡◌, ℕ, ◌+◌, ◌-◌, ◌*◌, ◌≤◌, List, length, slice_set}
use Rattle.nv_host.specs.Bytes.{bytes_at}
use Rattle.nv_prp.specs.Buffer.{IsApart}
use Rattle.nv_bus.specs.Bus.{BusValue, bank_at}
use Rattle.nv_driver.specs.Exchange.{IsReady}
use Rattle.nv_driver.specs.QueuePair.{QueuePair}
use Rattle.nv_driver.specs.Quiet.{pair_value}
use Rattle.nv_driver.specs.Settled.{end_of}
use Rattle.nv_driver.specs.declared.geometry.Geometry.{Geometry}
use Rattle.nv_driver.specs.declared.queue_pair.QueuePair.{QueuePair as QueuePairFields}

-- bytes that are in no ring and no page of the queue pair don't change
abbrev pub KeepsOutside : ℕ → QueuePair → List ℕ → List ℕ → Type 0
KeepsOutside page_size l old new =
    (from n : ℕ) → IsApart l.sq (64 * l.depth) from n → IsApart l.cq (16 * l.depth) from n
    → IsApart (l.first_page * page_size) (l.page_count * page_size) from n
    → bytes_at new from n ≡ bytes_at old from n

-- bytes before `end` that are outside the queue pair don't change
abbrev pub KeepsBelow : ℕ → ℕ → QueuePair → List ℕ → List ℕ → Type 0
KeepsBelow end page_size l old new =
    (from n : ℕ) → from + n ≤ end → IsApart l.sq (end_of page_size l - l.sq) from n
    → bytes_at new from n ≡ bytes_at old from n

-- a bus, the queue pair of one of its controllers, and the memory with its page size
pub record Side : Type 0 where
  pub bus : BusValue
  pub pair : QueuePairFields
  pub now : ℕ
  pub bytes : List ℕ

-- the side with these values
abbrev pub side : BusValue → QueuePairFields → ℕ → List ℕ → Side
side bus pair now bytes = record { bus = bus; pair = pair; now = now; bytes = bytes }

-- controller c has no command outstanding and the next queue pair, and the others' registers and bytes don't change
pub record IsLeft (g : Geometry) (c end : ℕ) (next : QueuePair) (old new : Side) : Type 0 where
  pub ready : IsReady g new.bus c new.pair new.now new.bytes
  pub banks : new.bus.banks ≡ slice_set old.bus.banks c (bank_at new.bus.banks c)
  pub pair : pair_value new.pair ≡ next
  pub others : KeepsBelow end g.page_size (pair_value old.pair) old.bytes new.bytes
  pub len : length new.bytes ≡ length old.bytes
  pub page : new.now ≡ old.now
