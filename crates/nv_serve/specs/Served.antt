-- What serving requests leaves behind, by how it ended.
use Rattle.std.specs.Prelude.{◌≡◌, ◌≢◌, ℕ, ◌+◌, false, true, List, [], ◌∷◌, ◌++◌, ◌⊎◌, Option, None, Some, flat_map}
use Rattle.std.specs.Prelude.{length}
use Rattle.std.specs.Prelude.{replicate}
use Rattle.std.specs.Io.KnownBytes.{Appends, Consumes}
use Rattle.nv_model.specs.Step.{reset_where}
use Rattle.nv_model.specs.State.{State}
use Rattle.nv_bus.specs.Bus.{BusValue, enabled_in}
use Rattle.nv_driver.specs.Geometry.{geometry_fault}
use Rattle.nv_driver.specs.declared.geometry.Geometry.{Geometry as DriverGeometry}
use Rattle.nv_driver.specs.declared.geometry_field.GeometryField.{GeometryField}
use Rattle.nv_stream.specs.Streams.{IsBeginning, SinkState, SourceState}
use Rattle.nv_serve.specs.Answer.{Answer, bare, bytes_of as answer_bytes}
use Rattle.nv_serve.specs.Header.{IsCutShort, IsTooLong, Request, bytes_of}
use Rattle.nv_serve.specs.Handling.{Calls, Handles}
use Rattle.nv_serve.specs.Reading.{HasEnded, HasFailed}
use Rattle.nv_serve.specs.Serving.{AreAnswered, Point, after_all, point}
use Rattle.nv_serve.specs.declared.answer.Outcome.TheVariants as outcome
use Rattle.nv_serve.specs.declared.ends.RequestsEnd.{RequestsEnd}
use Rattle.nv_serve.specs.declared.ends.RequestsEnd.TheVariants.{Done, Short, TooLong, Read, Write, NoReady}
use Rattle.nv_serve.specs.declared.ends.ServeEnd.{ServeEnd}
use Rattle.nv_serve.specs.declared.ends.ServeEnd.TheVariants.{Geometry, Memory, Requests}

-- the greatest number of requests that one call serves
abbrev pub request_limit : ℕ
request_limit = 4294967295

-- the streams
pub record Streams : Type 0 where
  pub source : SourceState
  pub out : SinkState

-- the streams with this source and this sink
abbrev pub streams : SourceState → SinkState → Streams
streams source out = record { source = source; out = out }

-- the answer to a request that is too long
abbrev pub too_long : Answer
too_long = record { header = bare outcome.TooLong; payload = [] }

-- what was read of a further request, and the answer to it: it has one only if it is too long
pub data IsRest (r : Request) (last : List Answer) : Type 0 where
  none : bytes_of r ≡ [] → last ≡ [] → IsRest r last
  cut : IsCutShort r → last ≡ [] → IsRest r last
  long : IsTooLong r → last ≡ too_long ∷ [] → IsRest r last

-- the bytes of answers, one after another
abbrev pub texts : List Answer → List ℕ
texts answers = flat_map answer_bytes answers

-- the sink took these answers, and has not failed
pub record HasTaken (old new : SinkState) (said : List Answer) : Type 0 where
  pub taken : Appends old.taken new.taken (texts said)
  pub not_failed : new.has_failed ≡ false

-- the sink took all answers before the last one and a beginning of that one, and failed
pub record HasTakenPart (old new : SinkState) (said : List Answer) : Type 0 where
  pub before : List Answer
  pub last : Answer
  pub part : List ℕ
  pub said_are : said ≡ before ++ last ∷ []
  pub beginning : IsBeginning part (answer_bytes last)
  pub taken : Appends old.taken new.taken (texts before ++ part)
  pub failed : new.has_failed ≡ true

-- the source has neither ended nor failed
pub record IsOpen (source : SourceState) : Type 0 where
  pub not_failed : source.has_failed ≡ false
  pub not_ended : source.has_ended ≡ false

-- The source ended between two requests, or inside one. A request was too long. The source failed,
-- or the greatest number of requests was reached. The sink failed, and nothing is read before an
-- answer is written. Each controller of a lawful bus is ready.
abbrev pub IsEnd : RequestsEnd → Request → List Request → List Answer → Streams → Streams → Type 0
IsEnd Done rest requests said old new =
    (bytes_of rest ≡ []) × HasEnded new.source × HasTaken old.out new.out said
IsEnd Short rest requests said old new = IsCutShort rest × (bytes_of rest ≢ [])
    × HasEnded new.source × HasTaken old.out new.out said
IsEnd TooLong rest requests said old new =
    IsTooLong rest × IsOpen new.source × HasTaken old.out new.out said
IsEnd Read rest requests said old new = ((IsCutShort rest × HasFailed new.source)
    ⊎ ((bytes_of rest ≡ []) × IsOpen new.source × (length requests ≡ request_limit)))
    × HasTaken old.out new.out said
IsEnd Write rest requests said old new =
    (IsTooLong rest ⊎ (bytes_of rest ≡ [])) × IsOpen new.source × HasTakenPart old.out new.out said
IsEnd NoReady rest requests said old new = ⊥

-- Requests were served from p on: those that were read completely were done, as `did` says, and are
-- answered in order, and the subsystem is in the state after them. Nothing of what was read further
-- was executed.
pub record IsServed (p : Point) (did : List Request → List Answer → Type 0) (end : RequestsEnd) (s : State)
    (old new : Streams) : Type 0 where
  pub requests : List Request
  pub answers : List Answer
  pub rest : Request
  pub last : List Answer
  pub done : did requests answers
  pub answered : AreAnswered p requests answers
  pub reached : s ≡ (after_all p requests).subsystem
  pub was_read : Consumes old.source.to_come new.source.to_come
      (flat_map bytes_of requests ++ bytes_of rest)
  pub count : new.source.given
      ≡ old.source.given + length (flat_map bytes_of requests ++ bytes_of rest)
  pub rest_is : IsRest rest last
  pub end_is : IsEnd end rest requests (answers ++ last) old new

-- the end if there is no driver or no memory: the first field of the geometry that is outside its
-- limits, or lack of memory
abbrev pub end_without : Option GeometryField → ServeEnd
end_without (Some field) = Geometry field
end_without None = Memory

-- the subsystem as the first request finds it: each controller that was enabled has been reset
abbrev pub begun : BusValue → Point
begun b = point (reset_where (enabled_in b.banks) b.state) (replicate (length b.banks) 0)

-- Without a driver nothing changes. With a driver, the geometry changes only the calls of the bus.
abbrev pub Serves : {B : Type 0} → Calls B → DriverGeometry → ServeEnd → B → B
    → BusValue → BusValue → Streams → Streams → Type 0
Serves k g end before after b b' old new =
    ((end ≡ end_without (geometry_fault g)) × (after ≡ before) × (b' ≡ b) × (new ≡ old))
    ⊎ ((geometry_fault g ≡ None)
    × ((e : RequestsEnd) × (end ≡ Requests e)
    × IsServed (begun b) (Handles k g (length b.banks) before after) e b'.state old new))
