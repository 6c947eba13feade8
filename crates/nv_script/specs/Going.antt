-- How batches go to controllers by a driver, call by call.
use Rattle.std.specs.Prelude.{◌≡◌, ℕ, List, [], ◌∷◌, length}
use Rattle.nv_bus.specs.Bus.{BusValue}
use Rattle.nv_driver.specs.BringingUp.{BusTurn, Read, Restarts, TailWrite, Write, Zeroes}
use Rattle.nv_driver.specs.Driver.{after_commands, after_reset}
use Rattle.nv_driver.specs.Sending.{Sends}
use Rattle.nv_driver.specs.Settled.{DriverValue}
use Rattle.nv_script.specs.Orders.{Batch, Commands, Restart}

-- what is said of a batch: the driver and the bus before it, and the bus after it
abbrev pub Going : Type 0 → Type 1
Going B = DriverValue → Batch → B → B → Type 0

-- the commands of a batch go by a driver, as many at a time as its window allows, or the driver resets
abbrev pub Goes : {B : Type 0} → (B → BusValue) → Write B → Read B → Zeroes B → TailWrite B → BusTurn B
    → Going B
Goes meaning wrote read zeroed rang turned d (Commands c commands) old new =
    Sends wrote rang turned d c commands (meaning old) old new
Goes meaning wrote read zeroed rang turned d (Restart c) old new =
    (before : List ℕ) × (after : List ℕ) × Restarts wrote read zeroed d.geometry c old before new after

-- the driver after a batch
abbrev pub after_batch : DriverValue → Batch → DriverValue
after_batch d (Commands c commands) = after_commands d c (length commands)
after_batch d (Restart c) = after_reset d c

-- the driver and the bus before these batches, and after them: each goes by the driver as the one before
-- left it, and nothing else is done
abbrev pub GoesAll : {B : Type 0} → Going B → DriverValue → B → DriverValue → B → List Batch → Type 0
GoesAll goes d old last new [] = (last ≡ d) × (new ≡ old)
GoesAll goes d old last new (b ∷ batches) =
    (mid : _) × goes d b old mid × GoesAll goes (after_batch d b) mid last new batches
