-- What a line prints and does, and a script as a fold over its lines.
use Rattle.std.specs.Prelude.{ℕ, ◌+◌, List, [], ◌++◌, length, replicate, Option, None, Some, Result}
use Rattle.std.specs.Prelude.{Ok, Err, unwrap_or, fold}
use Rattle.nv_layout.specs.declared.cqe.Status.{Status}
use Rattle.nv_model.specs.State.{State}
use Rattle.nv_command.specs.declared.reply.Reply.{Reply}
use Rattle.nv_script.specs.Orders.{Batch, batches_of, batches_with, orders_of}
use Rattle.nv_script.specs.Outcomes.{Outcome, outcome_of}
use Rattle.nv_script.specs.Shown.{output_of, shown_of}
use Rattle.nv_line.specs.Line.{reading}
use Rattle.nv_print.specs.Message.{message_of}
use Rattle.nv_print.specs.declared.fault.FaultCause.{FaultCause}
use Rattle.nv_print.specs.declared.fault.FaultCause.TheVariants as cause
use Rattle.nv_line.specs.declared.fault.LineFault.{LineFault}
use Rattle.nv_line.specs.declared.line.Line.{Line}
use Rattle.nv_line.specs.declared.line.Line.TheVariants as line
use Rattle.nv_line.specs.declared.request.Request.{Request}

-- what a line prints, on at most one of the two streams; its status, if it has one; the state after it;
-- and what went to controllers for it
pub record LineResult : Type 0 where
  pub output : List ℕ
  pub message : List ℕ
  pub status : Option ℕ
  pub state : State
  pub next_cids : List ℕ
  pub batches : List Batch

-- the message about what is wrong with the line of this number
abbrev pub message_at : ℕ → FaultCause → List ℕ
message_at number cause = message_of (record { line = number; cause = cause })

-- what a request in state s prints for these replies, in its format
abbrev pub output_for : State → Request → List Reply → List ℕ
output_for s r replies = output_of r.format (shown_of (orders_of s r.query) r.query replies)

-- a request in state s prints what it shows, or the message of its refusal; after the batch with a
-- refused order no further one goes
abbrev pub answer_result : Option Status → ℕ → State → Request → Outcome → LineResult
answer_result None number s r o = record {
  output = output_for s r o.replies;
  message = [];
  status = Some 0;
  state = o.state;
  next_cids = o.next_cids;
  batches = batches_of s r.query;
}
answer_result (Some status) number s r o = record {
  output = [];
  message = message_at number (cause.Refused status);
  status = Some 2;
  state = o.state;
  next_cids = o.next_cids;
  batches = batches_with (length o.replies + 1) (batches_of s r.query);
}

-- a request prints by whether its outcome is a refusal
abbrev pub request_result : ℕ → State → Request → Outcome → LineResult
request_result number s r o = answer_result o.refusal number s r o

-- a line without orders
abbrev pub quiet_result : State → List ℕ → List ℕ → Option ℕ → LineResult
quiet_result s next_cids message status = record {
  output = [];
  message = message;
  status = status;
  state = s;
  next_cids = next_cids;
  batches = [];
}

-- the result of the line with this number
abbrev pub line_result : State → List ℕ → ℕ → Result Line LineFault → LineResult
line_result s next_cids number (Ok line.Skipped) = quiet_result s next_cids [] None
line_result s next_cids number (Ok (line.Request r)) =
    request_result number s r (outcome_of s next_cids (orders_of s r.query))
line_result s next_cids number (Err fault) =
    quiet_result s next_cids (message_at number (cause.Line fault)) (Some 1)

-- the progress of a script between two lines: what was printed, the status of the last line that has one,
-- the subsystem, the next command identifier of each controller, how many lines there were, and what went
-- to controllers
pub record Progress : Type 0 where
  pub output : List ℕ
  pub messages : List ℕ
  pub status : ℕ
  pub state : State
  pub next_cids : List ℕ
  pub number : ℕ
  pub batches : List Batch

-- the meaning of the next line
abbrev pub said_at : Progress → List ℕ → Result Line LineFault
said_at p line = reading line (length p.state.controllers)

-- its result
abbrev pub result_at : Progress → List ℕ → LineResult
result_at p line = line_result p.state p.next_cids (p.number + 1) (said_at p line)

-- the progress after a line with this result
abbrev pub progress_with : Progress → LineResult → Progress
progress_with p r = record {
  output = p.output ++ r.output;
  messages = p.messages ++ r.message;
  status = unwrap_or r.status p.status;
  state = r.state;
  next_cids = r.next_cids;
  number = p.number + 1;
  batches = p.batches ++ r.batches;
}

-- the progress after one more line
abbrev pub after : Progress → List ℕ → Progress
after p line = progress_with p (result_at p line)

-- before the first line: all command identifiers begin at 0
abbrev pub start : State → Progress
start s = record {
  output = [];
  messages = [];
  status = 0;
  state = s;
  next_cids = replicate (length s.controllers) 0;
  number = 0;
  batches = [];
}

-- a whole script, from this state on
abbrev pub whole : State → List (List ℕ) → Progress
whole s lines = fold after (start s) lines
