-- What a run promises: how it ends, and what each of its ends leaves.
use Rattle.std.specs.Prelude.{◌≡◌, ◌≢◌, ◌↔◌, ◌⊎◌, ℕ, ◌≤◌, Bool, true, false, List}
use Rattle.std.specs.Prelude.{length, replicate, IfSome, Option, Some, None}
use Rattle.std.specs.Io.KnownBytes.{Consumes}
use Rattle.nv_model.specs.Step.{reset_where}
use Rattle.nv_model.specs.State.{State}
use Rattle.nv_bus.specs.Bus.{BusValue, enabled_in}
use Rattle.nv_driver.specs.Driver.{new_driver}
use Rattle.nv_driver.specs.Geometry.{geometry_fault}
use Rattle.nv_driver.specs.Settled.{DriverValue}
use Rattle.nv_driver.specs.declared.geometry.Geometry.{Geometry as DriverGeometry}
use Rattle.nv_driver.specs.declared.geometry_field.GeometryField.{GeometryField}
use Rattle.nv_script.specs.Cuts.{AreFailed, IsCutShort, HoldsWhole, Left, left_at}
use Rattle.nv_script.specs.Going.{Going, GoesAll}
use Rattle.nv_script.specs.Orders.{Batch}
use Rattle.nv_script.specs.Results.{whole}
use Rattle.nv_script.specs.ScriptLines.{IsReadToEnd, has_stopped, pieces, script_lines}
use Rattle.nv_stream.specs.Streams.{SinkState, SourceState}
use Rattle.nv_script.specs.declared.ends.RunEnd.{RunEnd}
use Rattle.nv_script.specs.declared.ends.RunEnd.TheVariants.{Status, Geometry, NoReady, Read}
use Rattle.nv_script.specs.declared.ends.RunEnd.TheVariants.{OutWrite, MessageWrite, Memory}

-- what a run works on: the subsystem, which of its controllers are enabled, and the streams
pub record RunState : Type 0 where
  pub subsystem : State
  pub enabled : List Bool
  pub script : SourceState
  pub out : SinkState
  pub messages : SinkState

-- what a run on this bus and these streams works on
abbrev pub run_state : BusValue → SourceState → SinkState → SinkState → RunState
run_state b script out messages = record {
  subsystem = b.state;
  enabled = enabled_in b.banks;
  script = script;
  out = out;
  messages = messages;
}

-- the subsystem as the first line finds it: each controller that was enabled has been reset
abbrev pub begun : RunState → State
begun old = reset_where old.enabled old.subsystem

-- each controller is enabled
abbrev pub AllEnabled : RunState → Type 0
AllEnabled now = now.enabled ≡ replicate (length now.subsystem.controllers) true

-- what a run left, with what there was before it, and what is said of the batches that went
abbrev pub left_by : (List Batch → Type 0) → RunState → RunState → Left
left_by went old new =
    left_at old.out.taken new.out.taken old.messages.taken new.messages.taken new.subsystem went

-- the bytes that a run read: the first of the bytes to come, if those are known, and as many as were
-- given
pub record WasRead (old new : SourceState) (bytes : List ℕ) : Type 0 where
  pub first : Consumes old.to_come new.to_come bytes
  pub count : length bytes ≡ new.given

-- all lines of a script were executed, from s on, and its status is the status of the last line that has one
abbrev pub LeavesAll : ℕ → State → List ℕ → Left → Type 0
LeavesAll status s bytes left =
    (status ≡ (whole s (script_lines bytes)).status) × HoldsWhole s (script_lines bytes) left

-- What each end of a run with a driver leaves, if the run began at s and read these bytes of a
-- script. With a status, all lines were executed. With a read fault, the lines whose newline was read
-- were executed. Any other end cut the run short in a line.
abbrev pub Leaves : RunEnd → ℕ → SourceState → State → List ℕ → Left → Type 0
Leaves (Status status) reads script s bytes left = LeavesAll status s bytes left
Leaves Read reads script s bytes left = HoldsWhole s (pieces bytes).ended left
Leaves end reads script s bytes left = IsCutShort end reads script s bytes left

-- Which end it is: a failed write's if and only if that sink has failed; Read if and only if no write
-- failed, no memory was refused and the source has stopped; and a status only if the script was read
-- to its end
abbrev pub IsEndOf : RunEnd → ℕ → RunState → Type 0
IsEndOf (Status status) reads now = IsReadToEnd reads now.script
    × (now.out.has_failed ≡ false) × (now.messages.has_failed ≡ false)
IsEndOf Read reads now = (has_stopped reads now.script ≡ true)
    × (now.out.has_failed ≡ false) × (now.messages.has_failed ≡ false)
IsEndOf end reads now = AreFailed end now.out.has_failed now.messages.has_failed

-- a run of at most so many reads, which began at s, with what is said of the batches that went
pub record RunsFrom (s : State) (reads : ℕ) (end : RunEnd) (went : List Batch → Type 0) (old new : RunState)
    : Type 0 where
  pub bytes : List ℕ
  pub was_read : WasRead old.script new.script bytes
  pub left : Leaves end reads new.script s bytes (left_by went old new)
  pub end_of : IsEndOf end reads new
  pub calls : new.script.calls ≤ reads

-- the end of a run that got no driver or no room for answers: the first field of the geometry that
-- is outside its limits, or, if no field is, lack of memory
abbrev pub end_without : Option GeometryField → RunEnd
end_without (Some field) = Geometry field
end_without None = Memory

-- what is said of bringing up a driver: its geometry, how many controllers there are, and the bus
-- before and after it
abbrev pub BringingUp : Type 0 → Type 1
BringingUp B = DriverGeometry → ℕ → B → B → Type 0

-- a driver of this geometry was brought up for all controllers, then batches went by it, of which this
-- holds, and nothing else was done
abbrev pub WithDriver : {B : Type 0} → BringingUp B → Going B → DriverGeometry → B → B → RunState
    → ((List Batch → Type 0) → Type 0) → Type 0
WithDriver {B} brings_up goes g before after old holds =
    let n = length old.subsystem.controllers in
    (up : B) × (last : DriverValue) × brings_up g n before up
    × holds (GoesAll goes (new_driver g n) up last after)

-- A run without a driver changes nothing, and the bus is the one from before. A run with a driver
-- has a geometry within its limits, by which the driver is brought up and sends its commands, and which
-- has no other effect on what is left, and leaves each controller enabled.
abbrev pub Runs : {B : Type 0} → BringingUp B → Going B → DriverGeometry → ℕ → RunEnd → B → B
    → RunState → RunState → Type 0
Runs brings_up goes g reads end before after old new =
    ((end ≡ end_without (geometry_fault g)) × (after ≡ before) × (new ≡ old))
    ⊎ ((geometry_fault g ≡ None) × AllEnabled new
    × WithDriver brings_up goes g before after old (λ went. RunsFrom (begun old) reads end went old new))

-- the headline: a script whose bytes are known and that was read to its end leaves what the fold
-- over its lines says
abbrev pub Headline : {B : Type 0} → BringingUp B → Going B → DriverGeometry → RunEnd → B → B
    → RunState → RunState → Type 0
Headline brings_up goes g end before after old new = (status : ℕ) → end ≡ Status status
    → IfSome old.script.to_come (λ script. WithDriver brings_up goes g before after old
    (λ went. LeavesAll status (begun old) script (left_by went old new)))

-- When each fault occurs: a failed write if and only if that sink has failed; a failed read if and
-- only if the source has stopped, no write failed and no memory was refused; and a controller that
-- isn't ready never.
pub record AreFaults (reads : ℕ) (end : RunEnd) (now : RunState) : Type 0 where
  pub ready : end ≢ NoReady
  pub out_write : (end ≡ OutWrite) ↔ (now.out.has_failed ≡ true)
  pub message_write : (end ≡ MessageWrite) ↔ (now.messages.has_failed ≡ true)
  pub read_fault : (end ≡ Read)
      ↔ ((has_stopped reads now.script ≡ true) × (now.out.has_failed ≡ false)
      × (now.messages.has_failed ≡ false) × (end ≢ Memory))

-- What a run of at most so many reads promises, with the bus before and after it.
pub record IsRun {B : Type 0} (brings_up : BringingUp B) (goes : Going B) (g : DriverGeometry) (reads : ℕ)
    (end : RunEnd) (before after : B) (old new : RunState) : Type 0 where
  -- what a script whose bytes are known leaves if it was read to its end
  pub headline : Headline brings_up goes g end before after old new
  -- what each end leaves, and how many reads there were
  pub ends : Runs brings_up goes g reads end before after old new
  -- when each fault occurs
  pub geometry : (field : GeometryField) → (end ≡ Geometry field) ↔ (geometry_fault g ≡ Some field)
  pub faults : AreFaults reads end new
