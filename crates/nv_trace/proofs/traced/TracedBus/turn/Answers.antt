use Rattle.nv_trace.proofs.SaidLaws.{said_all}
use Rattle.nv_trace.proofs.traced.TracedBus.turn.Goals as goal

pub returns-clause-turned : goal.returns-clause-turned
returns-clause-turned g c = (
  c.turn_with.ensures.tags,
  said_all (λ v. v.sink) g.S.Sink.state c.args.ctrl _ c.args.self.now.voice c.turn_with.new.observer
      c.turn_with.ensures.shown,
)
