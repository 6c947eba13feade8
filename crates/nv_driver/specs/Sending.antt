-- What sending a list of commands, or an entry, does on a bus, call by call.
use Rattle.std.specs.Prelude.{◌≡◌, ℕ, List, [], ◌∷◌, length, map}
use Rattle.nv_layout.specs.declared.cqe.Status.{Status}
use Rattle.nv_layout.specs.declared.sqe.Sqe.{Sqe}
use Rattle.nv_command.specs.declared.command.Command.{Command}
use Rattle.nv_bus.specs.Bus.{BusValue}
use Rattle.nv_model.specs.Conditions.{limit_of}
use Rattle.nv_driver.specs.Alone.{IsReadIn}
use Rattle.nv_driver.specs.BringingUp.{BusTurn, TailWrite, Write}
use Rattle.nv_driver.specs.Driver.{pages_behind, pair_at}
use Rattle.nv_driver.specs.Exchange.{IsReady}
use Rattle.nv_driver.specs.Quiet.{IsQuiet, pair_value}
use Rattle.nv_driver.specs.Request.{request_for, request_of}
use Rattle.nv_driver.specs.Schedule.{Event, Follows, World}
use Rattle.nv_driver.specs.Settled.{DriverValue}
use Rattle.nv_driver.specs.UnderWay.{DoesNext, Run, first_world, run_of, setting_of}
use Rattle.nv_driver.specs.declared.queue_pair.QueuePair.{QueuePair as QueuePairFields}

-- From a ready controller, events of a run, each of which was due, lead by their calls from one bus to the
-- other, up to the last answer to its requests, which is reported.
pub record SendsAll {B : Type 0} (wrote : Write B) (rang : TailWrite B) (turned : BusTurn B) (r : Run) (old new : B)
    (last : World) : Type 0 where
  pub ready : IsReady r.geometry r.bus r.controller r.pair r.geometry.page_size r.bytes
  pub events : List Event
  pub ran : Follows (DoesNext wrote rang turned r) (setting_of r) events (first_world r) old last new
  pub collected : length last.answers ≡ length r.requests
  pub told : last.told ≡ length r.requests

-- this goes over the queue pair of controller c of a driver, which has none outstanding, and its memory
pub record GoesOver (d : DriverValue) (c : ℕ) (goes : QueuePairFields → List ℕ → World → Type 0) : Type 0 where
  pub pair : QueuePairFields
  pub bytes : List ℕ
  pub last : World
  pub quiet : IsQuiet pair
  pub own : pair_value pair ≡ pair_at d.pairs c
  pub steps : goes pair bytes last

-- commands go to controller c
abbrev pub Sends : {B : Type 0} → Write B → TailWrite B → BusTurn B → DriverValue → ℕ → List Command
    → BusValue → B → B → Type 0
Sends wrote rang turned d c commands b old new = GoesOver d c
    (λ pair bytes. SendsAll wrote rang turned (run_of d.geometry c b pair bytes (map request_of commands))
    old new)

-- ---- an entry

-- An entry goes to controller c as it was given, except for its command identifier and its data pointer,
-- and with the host's bytes. Its list and its data are in the pages after those of all controllers, where
-- the host reads what came with this status.
abbrev pub Passes : {B : Type 0} → Write B → TailWrite B → BusTurn B → DriverValue → ℕ → Sqe → List ℕ
    → Status → List ℕ → BusValue → B → B → Type 0
Passes wrote rang turned d c e given status out b old new = GoesOver d c
    (λ pair bytes last. SendsAll wrote rang turned
    (run_of d.geometry c b (record pair { pages = pages_behind d.geometry (length d.pairs) d.pages }) bytes
    (request_for (limit_of b.state c) e given ∷ [])) old new last
    × IsReadIn d.geometry.page_size last status out)
