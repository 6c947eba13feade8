-- The effect of an entry that is passed through, and the bytes that come back.
use Rattle.std.specs.Prelude.{◌≡◌, ℕ, List, [], ◌∷◌, Ok, if◌then◌else◌, length}
use Rattle.nv_layout.specs.declared.cqe.Status.{Status}
use Rattle.nv_layout.specs.declared.sqe.Sqe.{Sqe}
use Rattle.nv_command.specs.Logs.{without_phases}
use Rattle.nv_command.specs.Reply.{data_of}
use Rattle.nv_command.specs.declared.reply.Reply.{Reply}
use Rattle.nv_model.specs.Conditions.{limit_of}
use Rattle.nv_model.specs.State.{State}
use Rattle.nv_model.specs.Step.{Step}
use Rattle.nv_bus.specs.Entry.{asked_step}
use Rattle.nv_driver.specs.Answer.{Answer}
use Rattle.nv_driver.specs.Request.{Asked, padded, request_for}
use Rattle.nv_driver.specs.Schedule.{Sent, World, bytes_read, is_success}

-- the effect of an entry and of the host's bytes on controller c, under a command identifier: its
-- command's step, or the refusal of the first rule that it breaks
abbrev pub asked_in : State → ℕ → Sqe → List ℕ → Asked
asked_in s c e bytes = (request_for (limit_of s c) e bytes).asked

-- the step of an entry with the host's bytes on controller c, or its refusal
abbrev pub entry_step : State → ℕ → Sqe → List ℕ → ℕ → Step
entry_step s c e bytes cid = asked_step (asked_in s c e bytes) s c e.nsid cid

-- the bytes that come back: the data of a reply, whose entries of the error log have their phase
-- tags, and nothing after a refusal
abbrev pub Comes : Asked → Answer → List ℕ → Type 0
Comes (Ok k) (Ok reply) came = (r : Reply) × (without_phases r ≡ reply) × (came ≡ data_of k r)
Comes asked answer came = came ≡ []

-- the host receives as many of these bytes as it has room for, and zeros after them
pub record IsReceived (asked : Asked) (answer : Answer) (out : List ℕ) : Type 0 where
  pub came : List ℕ
  pub comes : Comes asked answer came
  pub filled : out ≡ padded (length out) came

-- nothing is read unless the status is success
abbrev pub came_with : Status → List ℕ → List ℕ
came_with status bytes = if is_success status then bytes else []

-- The only request was sent, and after a success the host receives as many of the bytes that the memory has in
-- the end at the places of its data as it has room for, and zeros after them. After a refusal it receives zeros.
pub record IsReadIn (page_size : ℕ) (last : World) (status : Status) (out : List ℕ) : Type 0 where
  pub one : Sent
  pub sent : last.sent ≡ one ∷ []
  pub filled : out ≡ padded (length out) (came_with status (bytes_read page_size one last.mem))
