-- How one request is handled: what no public contract reaches.
use Rattle.std.specs.Prelude.{◌≡◌, List, ℕ}
use Rattle.nv_layout.specs.declared.sqe.Sqe.{Sqe}
use Rattle.nv_bus.specs.declared.command_result.CommandResult.{CommandResult}
use Rattle.nv_driver.specs.Settled.{DriverValue}
use Rattle.nv_serve.specs.Answer.{Answer}
use Rattle.nv_serve.specs.Handling.{Calls, Does, Sends}
use Rattle.nv_serve.specs.Header.{wanted_length}
use Rattle.nv_serve.specs.Serving.{IsAnswerToHeader, IsReturned, after_entry, after_header, returned}
use Rattle.nv_serve.specs.declared.header.Header.{Header}
use Rattle.nv_serve.specs.inner.Serving.{point_of}

-- an entry was passed through to the controller of a header, and answered
pub record IsPassed {B : Type 0} (k : Calls B) (h : Header) (e : Sqe) (bytes : List ℕ) (a : Answer)
    (d : DriverValue) (old : B) (d' : DriverValue) (new : B) : Type 0 where
  pub command_result : CommandResult
  pub came : IsReturned (point_of (k.meaning old) d) h.controller e bytes (wanted_length h) command_result a.payload
  pub header : a.header ≡ returned command_result.dword0 command_result.status (wanted_length h)
  pub reached : point_of (k.meaning new) d' ≡ after_entry (point_of (k.meaning old) d) h.controller e bytes
  pub steps : Sends k d h.controller e bytes a.header.status a.payload old d' new

-- what a header says was done, and answered
pub record IsHandled {B : Type 0} (k : Calls B) (h : Header) (bytes : List ℕ) (a : Answer)
    (d : DriverValue) (old : B) (d' : DriverValue) (new : B) : Type 0 where
  pub answer : IsAnswerToHeader (point_of (k.meaning old) d) h bytes a
  pub reached : point_of (k.meaning new) d' ≡ after_header (point_of (k.meaning old) d) h bytes
  pub steps : Does k d h bytes a old d' new
