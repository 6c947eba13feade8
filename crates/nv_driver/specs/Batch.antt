-- Requests of one controller, one at a time.
use Rattle.std.specs.Prelude.{ℕ, List, [], ◌∷◌, map}
use Rattle.nv_command.specs.declared.command.Command.{Command}
use Rattle.nv_model.specs.State.{State}
use Rattle.nv_model.specs.Step.{cid_after}
use Rattle.nv_driver.specs.Answer.{Answer}
use Rattle.nv_driver.specs.Request.{Request, request_of}
use Rattle.nv_driver.specs.Schedule.{Numbered, answers_of_all, state_after_all}

-- a request under a command identifier
abbrev pub numbered_request : Request → ℕ → Numbered
numbered_request q cid = record { asked = q.asked; nsid = q.entry.nsid; cid = cid }

-- requests with consecutive command identifiers, from this one on
abbrev pub from_cid : ℕ → List Request → List Numbered
from_cid next_cid [] = []
from_cid next_cid (q ∷ qs) = numbered_request q next_cid ∷ from_cid (cid_after next_cid) qs

-- the answers that the host receives to commands from controller c in state s
abbrev pub answers_of : ℕ → State → ℕ → List Command → List Answer
answers_of c s next_cid ks = answers_of_all c s (from_cid next_cid (map request_of ks))

-- the state after them
abbrev pub state_after : ℕ → State → ℕ → List Command → State
state_after c s next_cid ks = state_after_all c s (from_cid next_cid (map request_of ks))
