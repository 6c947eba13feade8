-- The effect of requests, one after another: a fold over the subsystem and the command identifiers.
use Rattle.std.specs.Prelude.{◌≡◌, ℕ, Bool, true, false, List, [], ◌∷◌, length, nat_lt, slice_set}
use Rattle.std.specs.Prelude.{slice_index_or, fold}
use Rattle.nv_layout.specs.declared.sqe.Sqe.{Sqe}
use Rattle.nv_layout.specs.declared.cqe.Status.{Status}
use Rattle.nv_command.specs.Entry.{entry_of}
use Rattle.nv_command.specs.declared.command.Command.TheVariants.{ActiveList}
use Rattle.nv_model.specs.Step.{reset, Step, cid_after}
use Rattle.nv_model.specs.State.{State}
use Rattle.nv_bus.specs.Entry.{command_result_of}
use Rattle.nv_bus.specs.declared.command_result.CommandResult.{CommandResult}
use Rattle.nv_driver.specs.Alone.{IsReceived, asked_in, entry_step}
use Rattle.nv_serve.specs.Answer.{Answer, bare}
use Rattle.nv_serve.specs.Header.{IsWhole, Request, header_of, wanted_length}
use Rattle.nv_serve.specs.declared.answer.AnswerHeader.{AnswerHeader}
use Rattle.nv_serve.specs.declared.answer.Outcome.TheVariants.{Answered, NoController, NoKind}
use Rattle.nv_serve.specs.declared.header.Header.{Header}
use Rattle.nv_serve.specs.declared.header.Kind.{Kind}
use Rattle.nv_serve.specs.declared.header.Kind.TheVariants.{Entry, Reset, List as ListKind, Unknown}

-- the subsystem, and the next command identifier of each controller
pub record Point : Type 0 where
  pub subsystem : State
  pub next_cids : List ℕ

-- the point with this subsystem and these command identifiers
abbrev pub point : State → List ℕ → Point
point subsystem next_cids = record { subsystem = subsystem; next_cids = next_cids }

-- the next command identifier of controller c
abbrev pub next_cid_of : Point → ℕ → ℕ
next_cid_of p c = slice_index_or p.next_cids c 0

-- an entry on controller c, with the host's bytes
abbrev pub step_at : Point → ℕ → Sqe → List ℕ → Step
step_at p c e bytes = entry_step p.subsystem c e bytes (next_cid_of p c)

-- the point after an entry on controller c: its step is done, and its command identifier is used up
abbrev pub after_entry : Point → ℕ → Sqe → List ℕ → Point
after_entry p c e bytes =
    point (step_at p c e bytes).state (slice_set p.next_cids c (cid_after (next_cid_of p c)))

-- a reset of a controller
abbrev pub after_reset : Point → ℕ → Point
after_reset p c = point (reset p.subsystem c) p.next_cids

-- the entry that asks for the list of a controller's active namespaces
abbrev pub list_entry : Sqe
list_entry = entry_of (ActiveList 0) 0

-- ---- the state after a request

-- the point after a request of this kind
abbrev pub after_kind : Kind → Point → Header → List ℕ → Point
after_kind Entry p h bytes = after_entry p h.controller h.entry bytes
after_kind Reset p h bytes = after_reset p h.controller
after_kind ListKind p h bytes = after_entry p h.controller list_entry []
after_kind Unknown p h bytes = p

-- nothing changes if its controller doesn't exist
abbrev pub after_if : Bool → Point → Header → List ℕ → Point
after_if true p h bytes = after_kind h.kind p h bytes
after_if false p h bytes = p

-- whether the controller of a header exists
abbrev pub has_controller : Point → Header → Bool
has_controller p h = nat_lt h.controller (length p.next_cids)

-- the point after a request with this header
abbrev pub after_header : Point → Header → List ℕ → Point
after_header p h bytes = after_if (has_controller p h) p h bytes

-- the point after a request
abbrev pub after_one : Point → Request → Point
after_one p r = after_header p (header_of r.header) r.payload

-- the point after several requests
abbrev pub after_all : Point → List Request → Point
after_all p requests = fold after_one p requests

-- ---- the answer to a request

-- a completion, and as much of the data that came back as was wanted
pub record IsReturned (p : Point) (c : ℕ) (e : Sqe) (bytes : List ℕ) (n : ℕ) (command_result : CommandResult)
    (payload : List ℕ) : Type 0 where
  pub command_result_is : command_result ≡ command_result_of (step_at p c e bytes).answer
  pub received : IsReceived (asked_in p.subsystem c e bytes) (step_at p c e bytes).answer payload
  pub room : length payload ≡ n

-- the header of an answer with a completion and n bytes of data
abbrev pub returned : ℕ → Status → ℕ → AnswerHeader
returned dword0 status n =
    record { dword0 = dword0; status = status; outcome = Answered; length = n }

-- an answer with this header and no data
abbrev pub IsBare : Answer → AnswerHeader → Type 0
IsBare a header = (a.header ≡ header) × (a.payload ≡ [])

-- the answer to a request of this kind, whose controller exists
abbrev pub IsAnswerByKind : Kind → Point → Header → List ℕ → Answer → Type 0
IsAnswerByKind Entry p h bytes a =
    (command_result : CommandResult)
    × IsReturned p h.controller h.entry bytes (wanted_length h) command_result a.payload
    × (a.header ≡ returned command_result.dword0 command_result.status (wanted_length h))
IsAnswerByKind Reset p h bytes a = IsBare a (bare Answered)
-- a list says how many controllers there are
IsAnswerByKind ListKind p h bytes a =
    (command_result : CommandResult)
    × IsReturned p h.controller list_entry [] (wanted_length h) command_result a.payload
    × (a.header ≡ returned (length p.next_cids) command_result.status (wanted_length h))
IsAnswerByKind Unknown p h bytes a = IsBare a (bare NoKind)

-- if the controller of a request doesn't exist, the answer says so and has no data
abbrev pub IsAnswerIf : Bool → Point → Header → List ℕ → Answer → Type 0
IsAnswerIf true p h bytes a = IsAnswerByKind h.kind p h bytes a
IsAnswerIf false p h bytes a = IsBare a (bare NoController)

-- the answer to a request with this header
abbrev pub IsAnswerToHeader : Point → Header → List ℕ → Answer → Type 0
IsAnswerToHeader p h bytes a = IsAnswerIf (has_controller p h) p h bytes a

-- the answer to a request
abbrev pub IsAnswer : Point → Request → Answer → Type 0
IsAnswer p r a = IsAnswerToHeader p (header_of r.header) r.payload a

-- each of these requests is complete and has its answer
abbrev pub AreAnswered : Point → List Request → List Answer → Type 0
AreAnswered p [] [] = Unit {0}
AreAnswered p [] (a ∷ answers) = ⊥
AreAnswered p (r ∷ requests) [] = ⊥
AreAnswered p (r ∷ requests) (a ∷ answers) =
    IsWhole r × IsAnswer p r a × AreAnswered (after_one p r) requests answers
