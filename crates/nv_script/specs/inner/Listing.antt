-- The state of `list` between two of its orders.
use Rattle.std.specs.Prelude.{◌≡◌, ℕ, Contains, List, [], ◌∷◌, ◌++◌, Result, Ok, Err, fold}
use Rattle.nv_model.specs.State.{State}
use Rattle.nv_command.specs.declared.reply.Reply.{Reply}
use Rattle.nv_command.specs.declared.reply.Reply.TheVariants as reply
use Rattle.nv_driver.specs.Answer.{Answer}
use Rattle.nv_script.specs.Orders.{Batch, orders_in_all}
use Rattle.nv_script.specs.Outcomes.{Order, exchange_of}
use Rattle.nv_script.specs.Shown.{listing_after}
use Rattle.nv_script.specs.declared.listing.Listing.{Listing}
use Rattle.nv_script.specs.declared.performing.NoText.{NoText}
use Rattle.nv_script.specs.declared.performing.NoText.TheVariants as stop

-- the subsystem, the next command identifiers, and what was listed
pub record Standing : Type 0 where
  pub state : State
  pub next_cids : List ℕ
  pub listing : Listing

-- the state after one more order, refused or not
abbrev pub asked : Standing → Order → Standing
asked w o =
    let e = exchange_of w.state w.next_cids o in
    record {
      state = e.state;
      next_cids = e.next_cids;
      listing = listing_after o.controller w.listing o.act e.answer;
    }

-- the standing after several orders
abbrev pub asked_all : Standing → List Order → Standing
asked_all w orders = fold asked w orders

-- the answers to the orders, one after another
abbrev pub answers_to : Standing → List Order → List Answer
answers_to w [] = []
answers_to w (o ∷ os) = (exchange_of w.state w.next_cids o).answer ∷ answers_to (asked w o) os

-- the NSIDs in a reply
abbrev pub nsids_listed : Reply → List ℕ
nsids_listed (reply.List nsids) = nsids
nsids_listed _ = []

-- these are the subsystem, the next command identifiers and the listing of a standing
pub record IsListed (w : Standing) (state : State) (next_cids : List ℕ)
    (listing : Listing) : Type 0 where
  pub subsystem : state ≡ w.state
  pub next : next_cids ≡ w.next_cids
  pub listed : listing ≡ w.listing

-- these batches went, were carried out, and their answers are listed
pub record AreListed (w : Standing) (batches : List Batch) (state : State) (next_cids : List ℕ)
    (listing : Listing) (went : List Batch → Type 0) : Type 0 where
  pub listed : IsListed (asked_all w (orders_in_all batches)) state next_cids listing
  pub gone : went batches

-- some of the first batches went and were carried out
pub record AreBegun (w : Standing) (batches : List Batch) (state : State) (next_cids : List ℕ)
    (went : List Batch → Type 0) : Type 0 where
  pub done : List Batch
  pub later : List Batch
  pub split : batches ≡ done ++ later
  pub subsystem : state ≡ (asked_all w (orders_in_all done)).state
  pub next : next_cids ≡ (asked_all w (orders_in_all done)).next_cids
  pub gone : went done

-- a refusal that is returned is one of the answers
abbrev pub IsHandedOn : NoText → List Answer → Type 0
IsHandedOn (stop.Refused status) answers = Contains answers (Err status)
IsHandedOn stop.Memory answers = Unit {0}
IsHandedOn stop.NoReady answers = ⊥

-- what listing some batches leaves: all are listed, or one of their orders was refused so, or memory was refused
-- among them
abbrev pub ListLeaves : {A : Type 0} → Result A NoText → Standing → List Batch → State → List ℕ
    → Listing → (List Batch → Type 0) → Type 0
ListLeaves (Ok done) w batches state next_cids listing went = AreListed w batches state next_cids listing went
ListLeaves (Err (stop.Refused status)) w batches state next_cids listing went =
    IsHandedOn (stop.Refused status) (answers_to w (orders_in_all batches))
ListLeaves (Err stop.Memory) w batches state next_cids listing went = AreBegun w batches state next_cids went
ListLeaves (Err stop.NoReady) w batches state next_cids listing went = ⊥
