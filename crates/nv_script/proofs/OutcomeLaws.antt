-- The outcome of commands by that of the first.
use Rattle.nv_script.proofs.Words.{ℕ, ◌∷◌, ◌≡◌, Answer, Exchange, List, None, Order, Outcome, Reply, Some, State}
use Rattle.nv_script.proofs.Words.{Status, ap, exchange_of, exchange_with, outcome_after, outcome_of, sym}

-- commands that were all accepted, and commands of which the last one was refused
abbrev pub accepted_with : List Reply → State → List ℕ → Outcome
accepted_with replies s next_cids = record { replies = replies; refusal = None; state = s; next_cids = next_cids }

-- the outcome of commands of which the last one was refused
abbrev pub refused_with : List Reply → Status → State → List ℕ → Outcome
refused_with replies status s next_cids =
    record { replies = replies; refusal = Some status; state = s; next_cids = next_cids }

-- the outcome of orders is the answer to the first one and then the outcome of the later ones
pub outcome_first : (s now : State) (next_cids next : List ℕ) (o : Order) (later : List Order) (answer : Answer)
    → exchange_with answer now next ≡ exchange_of s next_cids o
    → outcome_of s next_cids (o ∷ later) ≡ outcome_after answer now next (outcome_of now next later)
outcome_first s now next_cids next o later answer e =
    ap (λ (x : Exchange). outcome_after x.answer x.state x.next_cids (outcome_of x.state x.next_cids later)) (sym e)
