-- What performing a request leaves behind.
use Rattle.std.specs.Prelude.{◌≡◌, ℕ, ◌+◌, List, length, take, Option, None, Some, Result, Ok, Err, Vec}
use Rattle.nv_command.specs.declared.reply.Reply.{Reply}
use Rattle.nv_model.specs.State.{State}
use Rattle.nv_line.specs.declared.request.Ask.{Ask}
use Rattle.nv_line.specs.declared.request.Query.{Query}
use Rattle.nv_line.specs.declared.request.Query.TheVariants as query
use Rattle.nv_line.specs.declared.request.Request.{Request}
use Rattle.nv_print.specs.declared.device.ListedDevice.{ListedDevice}
use Rattle.nv_print.specs.declared.shown.Shown.{Shown}
use Rattle.nv_print.specs.declared.shown.Shown.TheVariants as shown
use Rattle.nv_script.specs.Outcomes.{Outcome, outcome_of}
use Rattle.nv_script.specs.Orders.{Batch, batches_of, batches_with, orders_in_all, orders_of}
use Rattle.nv_script.specs.Results.{output_for}
use Rattle.nv_script.specs.Shown.{shown_by, shown_of}
use Rattle.nv_script.specs.declared.performing.NoText.{NoText}
use Rattle.nv_script.specs.declared.performing.NoText.TheVariants as stop

-- these batches went, and these are the subsystem and the next command identifiers after their outcome
pub record IsReached (o : Outcome) (batches : List Batch) (state : State) (next_cids : List ℕ)
    (went : List Batch → Type 0) : Type 0 where
  pub subsystem : state ≡ o.state
  pub next : next_cids ≡ o.next_cids
  pub gone : went batches

-- a query was refused in its last batch, or memory was refused after some of its batches; each controller
-- was ready
abbrev pub NoTextLeaves : NoText → Query → State → List ℕ → State → List ℕ → (List Batch → Type 0) → Type 0
NoTextLeaves (stop.Refused status) q s next_cids state next went =
    let o = outcome_of s next_cids (orders_of s q) in
    (o.refusal ≡ Some status) × IsReached o (batches_of s q) state next went
    × (batches_with (length o.replies + 1) (batches_of s q) ≡ batches_of s q)
NoTextLeaves stop.Memory q s next_cids state next went = (k : ℕ)
    × (let batches = take k (batches_of s q) in
    IsReached (outcome_of s next_cids (orders_in_all batches)) batches state next went)
NoTextLeaves stop.NoReady q s next_cids state next went = ⊥

-- what the replies to all orders show, or why there is nothing to show
abbrev pub QueryLeaves : Result (Option Shown) NoText → Query → State → List ℕ → State
    → List ℕ → (List Batch → Type 0) → Type 0
QueryLeaves (Ok shown) q s next_cids state next went =
    let o = outcome_of s next_cids (orders_of s q) in
    (o.refusal ≡ None) × (shown ≡ shown_of (orders_of s q) q o.replies)
    × IsReached o (batches_of s q) state next went
QueryLeaves (Err stop) q s next_cids state next went = NoTextLeaves stop q s next_cids state next went

-- what the last reply to an ask shows, or why there is none
abbrev pub AskLeaves : Result Reply NoText → ℕ → Ask → State → List ℕ → State → List ℕ
    → (List Batch → Type 0) → Type 0
AskLeaves (Ok reply) c a s next_cids state next went =
    QueryLeaves (Ok (shown_by a reply)) (query.One c a) s next_cids state next went
AskLeaves (Err stop) c a s next_cids state next went =
    NoTextLeaves stop (query.One c a) s next_cids state next went

-- the devices that `list` shows, or why there are none
abbrev pub ListedAll : Result (List ListedDevice) NoText → State → List ℕ → State → List ℕ
    → (List Batch → Type 0) → Type 0
ListedAll (Ok devices) s next_cids state next went =
    QueryLeaves (Ok (Some (shown.Devices devices))) query.List s next_cids state next went
ListedAll (Err stop) s next_cids state next went = NoTextLeaves stop query.List s next_cids state next went

-- its text, or why there is none
abbrev pub RequestLeaves : {Z : Type 0} → Result (Vec ℕ Z) NoText → Request
    → State → List ℕ → State → List ℕ → (List Batch → Type 0) → Type 0
RequestLeaves (Ok text) r s next_cids state next went =
    let o = outcome_of s next_cids (orders_of s r.query) in
    (o.refusal ≡ None) × (text.items ≡ output_for s r o.replies)
    × IsReached o (batches_of s r.query) state next went
RequestLeaves (Err stop) r s next_cids state next went =
    NoTextLeaves stop r.query s next_cids state next went
