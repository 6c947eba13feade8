-- What reading one request leaves behind: what no public contract reaches.
use Rattle.std.specs.Prelude.{◌≡◌, ◌≢◌, ℕ, ◌+◌, ◌<◌, ◌≤◌, false, List, [], length, take}
use Rattle.std.specs.Io.KnownBytes.{Consumes}
use Rattle.nv_layout.specs.Sqe.{SqeFits}
use Rattle.nv_stream.specs.Streams.{SourceState}
use Rattle.nv_serve.specs.Header.{IsCutShort, IsTooLong, IsWhole, Request, bytes_of, header_of}
use Rattle.nv_serve.specs.Header.{sent_length}
use Rattle.nv_serve.specs.declared.reading.Filled.{Filled}
use Rattle.nv_serve.specs.declared.reading.Filled.TheVariants.{Whole, Ended, Failed}
use Rattle.nv_serve.specs.declared.reading.ReadRequest.{ReadRequest}
use Rattle.nv_serve.specs.declared.reading.ReadRequest.TheVariants as taken
use Rattle.nv_serve.specs.Reading.{HasEnded, HasFailed}

-- the source can be read further, and made no more reads than it returned bytes
pub record IsReady (source : SourceState) : Type 0 where
  pub not_failed : source.has_failed ≡ false
  pub not_ended : source.has_ended ≡ false
  pub calls : source.calls ≤ source.given

-- the first n bytes of a buffer were read
pub record Fills (n : ℕ) (old new : SourceState) (buf : List ℕ) : Type 0 where
  pub bytes : Consumes old.to_come new.to_come (take n buf)
  pub given : new.given ≡ old.given + n

-- what filling a buffer leaves: all of it is filled, or n bytes were read before the source ended or failed
abbrev pub IsFilled : Filled → SourceState → SourceState → List ℕ → Type 0
IsFilled Whole old new buf = Fills (length buf) old new buf × IsReady new
IsFilled (Ended n) old new buf = Fills n old new buf × (n < length buf) × HasEnded new
IsFilled (Failed n) old new buf = Fills n old new buf × (n < length buf) × HasFailed new

-- these bytes were read
pub record Reads (r : Request) (old new : SourceState) : Type 0 where
  pub bytes : Consumes old.to_come new.to_come (bytes_of r)
  pub given : new.given ≡ old.given + length (bytes_of r)

-- the request with this header and this data
abbrev pub request : List ℕ → List ℕ → Request
request header payload = record { header = header; payload = payload }

-- A request was read completely, with its data at the beginning of a buffer. The source ended
-- before it, or inside it. It is too long. The source failed.
abbrev pub IsTaken : ReadRequest → SourceState → SourceState → List ℕ → List ℕ → Type 0
IsTaken (taken.Request h) old new header buf =
    let r = request header (take (sent_length h) buf) in
    (h ≡ header_of header) × SqeFits h.entry × IsWhole r × Reads r old new × IsReady new
IsTaken taken.Nothing old new header buf = Reads (request [] []) old new × HasEnded new
IsTaken taken.Short old new header buf = (r : Request) × IsCutShort r × (bytes_of r ≢ [])
    × Reads r old new × HasEnded new
IsTaken taken.TooLong old new header buf =
    IsTooLong (request header []) × Reads (request header []) old new × IsReady new
IsTaken taken.Failed old new header buf = (r : Request) × IsCutShort r
    × Reads r old new × HasFailed new
