-- What a query makes controllers do, and what of it goes to a controller at once.
use Rattle.std.specs.Prelude.{ℕ, zero, suc, ◌-◌, ◌*◌, max, min, List, [], ◌∷◌, drop, flat_map, length, map, take}
use Rattle.std.specs.List.{range_with_len}
use Rattle.nv_bits.specs.Above.{above}
use Rattle.nv_model.specs.Logs.{entry_count}
use Rattle.nv_model.specs.Conditions.{active_nsids}
use Rattle.nv_model.specs.State.{State}
use Rattle.nv_command.specs.declared.command.Command.{Command}
use Rattle.nv_command.specs.declared.command.Command.TheVariants.{IdentifyController, IdentifyNamespace}
use Rattle.nv_command.specs.declared.command.Command.TheVariants.{ActiveList, GetLog}
use Rattle.nv_script.specs.Outcomes.{Order, Reset, order_of}
use Rattle.nv_line.specs.declared.request.Ask.{Ask}
use Rattle.nv_line.specs.declared.request.Ask.TheVariants as ask
use Rattle.nv_line.specs.declared.request.Query.{Query}
use Rattle.nv_line.specs.declared.request.Query.TheVariants as query

-- ---- batches

-- what goes to a controller at once: commands, or a reset
pub data Batch : Type 0 where
  Commands : ℕ → List Command → Batch
  Restart : ℕ → Batch

-- its orders
abbrev pub orders_in : Batch → List Order
orders_in (Commands c commands) = map (order_of c) commands
orders_in (Restart c) = record { controller = c; act = Reset } ∷ []

-- the orders of several batches
abbrev pub orders_in_all : List Batch → List Order
orders_in_all batches = flat_map orders_in batches

-- the batches with the first n orders
abbrev pub batches_with : ℕ → List Batch → List Batch
batches_with zero batches = []
batches_with (suc n) [] = []
batches_with (suc n) (b ∷ batches) = b ∷ batches_with (suc n - length (orders_in b)) batches

-- a command that goes alone
abbrev pub alone : ℕ → Command → Batch
alone c k = Commands c (k ∷ [])

-- ---- one controller is asked

-- the command for `entries` entries of an error log, 16 dwords each, but no more than a controller
-- keeps, and at least one
abbrev pub errors_command : ℕ → ℕ → Command
errors_command entries kept = GetLog (record {
  lid = 0x01;
  nsid = 0;
  offset = 0;
  dwords = 16 * max (min entries kept) 1;
})

-- what a controller is asked makes it do one act; before its error log is read, it says how many
-- errors it keeps
abbrev pub batches_of_one : State → ℕ → Ask → List Batch
batches_of_one s c (ask.Send k) = alone c k ∷ []
batches_of_one s c (ask.ErrorLog entries) =
    alone c IdentifyController ∷ alone c (errors_command entries (entry_count s c)) ∷ []
batches_of_one s c ask.Reset = Restart c ∷ []

-- ---- each controller is asked for its namespaces

-- at most n groups of NSIDs: sixteen in each, or what is left in the last one
abbrev pub groups : ℕ → List ℕ → List (List ℕ)
groups zero nsids = []
groups (suc n) [] = []
groups (suc n) (nsid ∷ nsids) = take 16 (nsid ∷ nsids) ∷ groups n (drop 16 (nsid ∷ nsids))

-- the commands for the data of these namespaces, at once
abbrev pub asking_for : ℕ → List ℕ → Batch
asking_for c nsids = Commands c (map IdentifyNamespace nsids)

-- the commands for the data of these namespaces, in order, a group at a time
abbrev pub namespace_batches : ℕ → List ℕ → List Batch
namespace_batches c nsids = map (asking_for c) (groups (length nsids) nsids)

-- the commands for a controller's data, for its attached NSIDs, and for the data of each of these namespaces
abbrev pub batches_of_controller : State → ℕ → List Batch
batches_of_controller s c =
    alone c IdentifyController ∷ alone c (ActiveList 0) ∷ namespace_batches c (above 0 (active_nsids s c))

-- the batches of each controller, one controller after another
abbrev pub batches_of_list : State → List Batch
batches_of_list s = flat_map (batches_of_controller s) (range_with_len 0 (length s.controllers))

-- ---- a query

-- the batches of a query
abbrev pub batches_of : State → Query → List Batch
batches_of s (query.One c a) = batches_of_one s c a
batches_of s query.List = batches_of_list s

-- its orders
abbrev pub orders_of : State → Query → List Order
orders_of s q = orders_in_all (batches_of s q)
