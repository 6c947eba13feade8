-- How many commands of a list are executed at a time: what a turn takes, and when the head doorbell is rung.
use Rattle.std.specs.Prelude.{◌≡◌, ℕ, ◌%◌, ◌+◌, ◌-◌, ◌*◌, ◌<◌, ◌≤◌, List, length, min, slice_index_or, slice_set, true}
use Rattle.nv_queue.specs.Numbers.{slot_of}
use Rattle.nv_queue.specs.Rings.{told_all}
use Rattle.nv_register.specs.RegisterBank.{with_register_at}
use Rattle.nv_bus.specs.Bus.{BusValue, IsBus, bank_at}
use Rattle.nv_driver.specs.BringingUp.{BusTurn, TailWrite, Write}
use Rattle.nv_driver.specs.Schedule.{Sent, World}
use Rattle.nv_driver.specs.Sending.{SendsAll}
use Rattle.nv_driver.specs.UnderWay.{IsHeld, LiesInPages, Run}
use Rattle.nv_driver.specs.declared.batch.Batch.{Batch}
use Rattle.nv_driver.specs.declared.command_pages.CommandPages.{CommandPages}
use Rattle.nv_driver.specs.declared.queue_pair.QueuePair.{QueuePair as QueuePairFields}

-- a turn takes the commands that are waiting, but no more than the pace, and no more than have a
-- free slot for their completions
abbrev pub taken_by_turn : Run → Batch → ℕ
taken_by_turn r b =
    min r.geometry.pace
    (min (b.sent - b.collected) (r.pair.submission.depth - 1 - (b.collected - b.told)))

-- fewer answers than the pace were collected since the head doorbell was rung
abbrev pub IsToldInTime : Run → Batch → Type 0
IsToldInTime r b = b.collected < b.told + r.geometry.pace

-- between two counts of reported answers, the head doorbell was rung each time that as many as the
-- pace were collected
abbrev pub IsToldByPace : ℕ → ℕ → ℕ → Type 0
IsToldByPace pace before after = (times : ℕ) × (after ≡ before + times * pace)

-- the head doorbell of controller c was rung if there was an answer to report, and all collected
-- answers are reported
pub record IsTold (c : ℕ) (l : QueuePairFields) (m : BusValue) (l' : QueuePairFields) (m' : BusValue) : Type 0 where
  pub pair : l' ≡ record l { completion = told_all l.completion }
  pub state : m'.state ≡ m.state
  pub bus : IsBus m → IsBus m'
  pub told : l.completion.untold ≡ true → m'.banks ≡ slice_set m.banks c
      (with_register_at (bank_at m.banks c) 0x1004 (slot_of l.completion.depth l.completion.collected))

-- these are the memory and the controller of a world
pub record IsSeenAs (w : World) (c : ℕ) (bus : BusValue) (bytes : List ℕ) : Type 0 where
  pub mem : w.mem ≡ bytes
  pub state : w.state ≡ bus.state
  pub bank : w.bank ≡ bank_at bus.banks c

-- a run's commands were sent, which leaves this bus and this memory, and in the window the pages of the last
-- sixteen
pub record IsPaced {B : Type 0} (wrote : Write B) (rang : TailWrite B) (turned : BusTurn B) (r : Run) (old new : B)
    (bus : BusValue) (bytes : List ℕ) (places : List CommandPages) : Type 0 where
  pub last : World
  pub steps : SendsAll wrote rang turned r old new last
  pub seen : IsSeenAs last r.controller bus bytes
  pub sent : length last.sent ≡ length r.requests
  pub kept : (n : ℕ) (d : Sent) → n < length r.requests → LiesInPages r n (slice_index_or last.sent n d)
  pub held : (n : ℕ) (p : CommandPages) (d : Sent) → length r.requests ≤ n + 16 → n < length r.requests
      → IsHeld (slice_index_or places (n % 16) p) (slice_index_or last.sent n d)
