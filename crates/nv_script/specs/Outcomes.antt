-- The outcome of one act at a controller, and of orders, one after another.
use Rattle.std.specs.Prelude.{ℕ, List, Result, Ok, slice_index, slice_set, [], ◌∷◌, Option, Some, None}
use Rattle.std.specs.Prelude.{Err}
use Rattle.nv_layout.specs.declared.cqe.Status.{Status}
use Rattle.nv_model.specs.Step.{reset, cid_after, step}
use Rattle.nv_model.specs.State.{State}
use Rattle.nv_command.specs.declared.reply.Reply.{Reply}
use Rattle.nv_command.specs.declared.reply.Reply.TheVariants.{Done}
use Rattle.nv_command.specs.Received.{answer_received}
use Rattle.nv_command.specs.declared.command.Command.{Command}

-- what is done at a controller: a command is sent to it, or it is reset
pub data Act : Type 0 where
  Send : Command → Act
  Reset : Act

-- an act at a controller, which is given by its place in the subsystem's file
pub record Order : Type 0 where
  pub controller : ℕ
  pub act : Act

-- a command for a controller
abbrev pub order_of : ℕ → Command → Order
order_of c k = record { controller = c; act = Send k }

-- the answer to an act as the host receives it, and the state and the next command identifiers of the controllers
-- after it
pub record Exchange : Type 0 where
  pub answer : Result Reply Status
  pub state : State
  pub next_cids : List ℕ

-- the exchange with these values
abbrev pub exchange_with : Result Reply Status → State → List ℕ → Exchange
exchange_with answer s next_cids = record { answer = answer; state = s; next_cids = next_cids }

-- the outcome of an act at controller c; a reset always succeeds, and takes no command identifier
abbrev pub exchange_by : Act → State → List ℕ → ℕ → Exchange
exchange_by (Send k) s next_cids c =
    let next_cid = slice_index next_cids c in
    let step = step s c k next_cid in
    exchange_with (answer_received k step.answer) step.state
    (slice_set next_cids c (cid_after next_cid))
exchange_by Reset s next_cids c = exchange_with (Ok Done) (reset s c) next_cids

-- the outcome of an order
abbrev pub exchange_of : State → List ℕ → Order → Exchange
exchange_of s next_cids o = exchange_by o.act s next_cids o.controller

-- the replies up to the first refusal, and the state and the next command identifiers after them
pub record Outcome : Type 0 where
  pub replies : List Reply
  pub refusal : Option Status
  pub state : State
  pub next_cids : List ℕ

-- a refusal ends the list; a reply comes before those of the later orders
abbrev pub outcome_after : Result Reply Status → State → List ℕ → Outcome → Outcome
outcome_after (Err status) s next_cids later = record {
  replies = [];
  refusal = Some status;
  state = s;
  next_cids = next_cids;
}
outcome_after (Ok reply) s next_cids later = record later { replies = reply ∷ later.replies }

-- the outcome of orders, one after another up to the first refusal
abbrev pub outcome_of : State → List ℕ → List Order → Outcome
outcome_of s next_cids [] = record { replies = []; refusal = None; state = s; next_cids = next_cids }
outcome_of s next_cids (o ∷ os) =
    let e = exchange_of s next_cids o in
    outcome_after e.answer e.state e.next_cids (outcome_of e.state e.next_cids os)
