-- Lines of the entries that a sink's voice was shown.
use Rattle.std.proofs.Common.{ℕ, List, [], ◌∷◌, ap, subst}
use Rattle.nv_bus.specs.Shown.{AreShown}
use Rattle.nv_bus.specs.declared.exchange.Exchange.{Exchange}
use Rattle.nv_stream.specs.Streams.{SinkState}
use Rattle.nv_trace.specs.Said.{SaysAll, exchange_texts}

-- if each entry that was shown got its lines, the sink has the lines of all
pub said_all : {V S : Type 0} (sink : V → S) (state : S → SinkState) (c : ℕ) (es : List Exchange) (old new : V)
    → AreShown (λ v d e w. SaysAll state (exchange_texts d (e ∷ [])) (sink v) (sink w)) c es old new
    → SaysAll state (exchange_texts c es) (sink old) (sink new)
said_all sink state c [] old new same = ap sink same
said_all sink state c (e ∷ es) old new shown =
    let lines = shown.1 in
    let rest = said_all sink state c es shown.0 new shown.2 in (
      lines.0,
      lines.1,
      (
        lines.2.0,
        lines.2.1,
        subst (λ s. SaysAll state (exchange_texts c es) s (sink new)) lines.2.2 rest,
      ),
    )
