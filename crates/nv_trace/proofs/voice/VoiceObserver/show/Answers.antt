use Rattle.std.proofs.Common.{refl}
use Rattle.nv_trace.proofs.voice.VoiceObserver.show.Goals as goal

pub returns : goal.returns
returns g c = (
  c.say.new.self.sink,
  record { line = c.say.ensures.line; silent = c.say.ensures.silent },
  (c.say-2.new.self.sink, record { line = c.say-2.ensures.line; silent = c.say-2.ensures.silent }, refl),
)
