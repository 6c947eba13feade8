-- What reading one request leaves behind.
use Rattle.std.specs.Prelude.{◌≡◌, true, false}
use Rattle.std.specs.Io.KnownBytes.{IsAtEnd}
use Rattle.nv_stream.specs.Streams.{SourceState}

-- a read returned no byte, and there are no more
pub record HasEnded (source : SourceState) : Type 0 where
  pub at_end : IsAtEnd source.to_come
  pub ended : source.has_ended ≡ true
  pub not_failed : source.has_failed ≡ false

-- a read failed
pub record HasFailed (source : SourceState) : Type 0 where
  pub failed : source.has_failed ≡ true
  pub not_ended : source.has_ended ≡ false
