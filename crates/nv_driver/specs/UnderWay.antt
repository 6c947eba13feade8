-- Requests of one controller on their way, of which several are outstanding.
use Rattle.std.specs.Prelude.{◌≡◌, ◌⊎◌, ℕ, ◌+◌, ◌*◌, ◌%◌, ◌<◌, ◌≤◌, All, List, [], length, map, min}
use Rattle.std.specs.Prelude.{◌++◌, ◌∷◌, drop, slice_index_or, slice_set, take}
use Rattle.nv_host.specs.PageSets.{IsOf, Pages}
use Rattle.nv_register.specs.declared.register_bank.RegisterBank.{RegisterBank}
use Rattle.nv_model.specs.Conditions.{limit_of}
use Rattle.nv_model.specs.Ranges.{cid_count}
use Rattle.nv_model.specs.State.{State}
use Rattle.nv_bus.specs.Bus.{BusValue, IsBus, bank_at}
use Rattle.nv_bus.specs.Call.{length_of}
use Rattle.nv_driver.specs.Batch.{from_cid}
use Rattle.nv_driver.specs.BringingUp.{BusTurn, TailWrite, Write}
use Rattle.nv_driver.specs.Exchange.{IsReady}
use Rattle.nv_driver.specs.Layout.{data_count, pages_for}
use Rattle.nv_driver.specs.Keeping.{Keeps, OthersStay}
use Rattle.nv_driver.specs.QueuePair.{QueuePair, idle_bank}
use Rattle.nv_driver.specs.Quiet.{pair_value}
use Rattle.nv_driver.specs.Registers.{mps_of}
use Rattle.nv_driver.specs.Answer.{Answer}
use Rattle.nv_driver.specs.Request.{IsRequest, Request, request_for, request_of}
use Rattle.nv_driver.specs.declared.requests.Requests.{Requests}
use Rattle.nv_driver.specs.declared.requests.Requests.TheVariants as sends
use Rattle.nv_command.specs.Logs.{IsSendable}
use Rattle.nv_driver.specs.Schedule.{Doing, Event, Follows, Numbered, Sent, Setting, World}
use Rattle.nv_driver.specs.Schedule.{collect_ring, numbered, own_pages, slot, submit_ring}
use Rattle.nv_driver.specs.Schedule.{Bell, Collect, Elsewhere, Submit, Tell, Turn}
use Rattle.nv_driver.specs.CommandPages.{AreLowest, AreTaken, all_pages, without}
use Rattle.nv_driver.specs.Submitting.{place_in, sent_at}
use Rattle.nv_driver.specs.Pointer.{IsPointedFrom}
use Rattle.nv_driver.specs.declared.batch.Batch.{Batch}
use Rattle.nv_driver.specs.declared.geometry.Geometry.{Geometry}
use Rattle.nv_driver.specs.declared.queue_pair.QueuePair.{QueuePair as QueuePairFields}
use Rattle.nv_driver.specs.declared.command_pages.CommandPages.{CommandPages}

-- the schedule of a queue pair's controller, from its next command on
abbrev pub setting : Geometry → (c limit : ℕ) → QueuePair → Setting
setting g c limit l = record {
  controller = c;
  limit = limit;
  page_size = g.page_size;
  sq = l.sq;
  cq = l.cq;
  depth = l.depth;
  start = l.number;
  bank = idle_bank (mps_of g.page_size) g.page_size l;
}

-- the state at the beginning of a run: the controller's bus, its queue pair and the memory, and the requests
pub record Run : Type 0 where
  pub geometry : Geometry
  pub controller : ℕ
  pub bus : BusValue
  pub pair : QueuePairFields
  pub bytes : List ℕ
  pub requests : List Request

-- the run with these values
abbrev pub run_of : Geometry → ℕ → BusValue → QueuePairFields → List ℕ → List Request → Run
run_of g c b l bytes requests =
    record { geometry = g; controller = c; bus = b; pair = l; bytes = bytes; requests = requests }

-- a run, and the bus at its beginning
pub record RunOn (B : Type 0) : Type 0 where
  pub run : Run
  pub start : B

-- the run with these values
abbrev pub run_on : {B : Type 0} → Run → B → RunOn B
run_on r start = record { run = r; start = start }

-- the schedule of a run's controller
abbrev pub setting_of : Run → Setting
setting_of r =
    setting r.geometry r.controller (limit_of r.bus.state r.controller) (pair_value r.pair)

-- its requests under their command identifiers
abbrev pub numbered_of : Run → List Numbered
numbered_of r = from_cid r.pair.next_cid r.requests

-- the command identifier of the run's request n
abbrev pub cid_at : Run → ℕ → ℕ
cid_at r n = (r.pair.next_cid + n) % cid_count

-- ---- requests on their way

-- the requests that were sent, the answers that were collected, and the events, the last one first
pub record Course : Type 0 where
  pub sent : List Sent
  pub answers : List Answer
  pub events : List Event

-- For `rung` of a run's requests the tail doorbell was rung, `done` were executed by turns, and for `told` the
-- head doorbell was rung.
pub record Way : Type 0 where
  pub run : Run
  pub course : Course
  pub rung : ℕ
  pub done : ℕ
  pub told : ℕ

-- the way with these values
abbrev pub way : Run → Course → (rung done told : ℕ) → Way
way r x rung done told = record { run = r; course = x; rung = rung; done = done; told = told }

-- its schedule, with this state and these registers of the controller
abbrev pub world_by : Way → State → RegisterBank → List ℕ → World
world_by w s p bytes = record {
  mem = bytes;
  state = s;
  bank = p;
  sent = w.course.sent;
  rung = w.rung;
  done = w.done;
  told = w.told;
  answers = w.course.answers;
}

-- the schedule over a bus and a memory
abbrev pub world_of : Way → BusValue → List ℕ → World
world_of w bus bytes = world_by w bus.state (bank_at bus.banks w.run.controller) bytes

-- the queue pair by how many requests were sent, collected and reported, and which pages are free
abbrev pub pair_after : Run → (sent collected told : ℕ) → Pages → QueuePairFields
pair_after r sent collected told pages = record {
  submission = submit_ring (setting_of r) sent collected;
  completion = collect_ring (setting_of r) collected told;
  next_cid = cid_at r sent;
  geometry = r.pair.geometry;
  pages = pages;
}

-- nothing was done yet
abbrev pub beginning : Setting → List ℕ → State → World
beginning t bytes s = record {
  mem = bytes;
  state = s;
  bank = t.bank;
  sent = [];
  rung = 0;
  done = 0;
  told = 0;
  answers = [];
}

-- the state of a run's schedule before its first request
abbrev pub first_world : Run → World
first_world r = beginning (setting_of r) r.bytes r.bus.state

-- they are on their way over a bus, a queue pair and a memory, by events of which this is said
pub record IsOnWay {B : Type 0} (doing : Doing B) (start : B) (w : Way) (bus : BusValue) (on : B)
    (l : QueuePairFields) (now : ℕ) (bytes : List ℕ) : Type 0 where
  pub begun : IsReady w.run.geometry w.run.bus w.run.controller w.run.pair w.run.geometry.page_size
      w.run.bytes
  pub page_size : now ≡ w.run.geometry.page_size
  pub size : length bytes ≡ length w.run.bytes
  pub keeps : Keeps (setting_of w.run) w.run.bus.state (world_of w bus bytes)
  pub others : OthersStay (setting_of w.run) 0 w.run.bytes (world_of w bus bytes)
  pub lawful : IsBus bus
  pub banks : bus.banks
      ≡ slice_set w.run.bus.banks w.run.controller (bank_at bus.banks w.run.controller)
  pub pair : l ≡ pair_after w.run (length w.course.sent) (length w.course.answers) w.told l.pages
  pub ran : Follows doing (setting_of w.run) w.course.events (first_world w.run) start
      (world_of w bus bytes) on

-- ---- a list of requests

-- the pages of requests, one after another
abbrev pub pages_of_all : List Sent → List ℕ
pages_of_all [] = []
pages_of_all (x ∷ xs) = own_pages x ++ pages_of_all xs

-- request n of the run was sent with its data and a list at their places in these pages
pub record LiesInPages (r : Run) (n : ℕ) (x : Sent) : Type 0 where
  pub pages : List ℕ
  pub sent : x ≡ sent_at (place_in r.geometry pages) (slice_index_or r.requests n x.request)
      (cid_at r n) x.prp1 x.prp2
  pub many : length pages ≡ data_count r.geometry (length_of x.request.transfer) + 2
  pub points : IsPointedFrom r.geometry.page_size x

-- the pages of the outstanding requests, of which k were collected, and those that are free
abbrev pub held_pages : (k : ℕ) → List Sent → List ℕ
held_pages k xs = pages_of_all (drop k xs)

abbrev pub free_pages : Run → (k : ℕ) → List Sent → Pages
free_pages r k xs = without r.pair.pages (held_pages k xs)

-- ---- what is done next

-- how many requests may have been sent
abbrev pub sent_in_window : Run → World → ℕ
sent_in_window r w = min (length w.answers + r.geometry.window) (length r.requests)

-- everything that was executed was collected, and no pace of it is to be reported
pub record HasCollected (r : Run) (w : World) : Type 0 where
  pub all : length w.answers ≡ w.done
  pub near : w.done < w.told + r.geometry.pace

-- the next request of the run, in the lowest pages of the queue pair that no outstanding one has
pub record IsNext (r : Run) (w : World) (x : Sent) : Type 0 where
  pub kept : LiesInPages r (length w.sent) x
  pub taken : AreTaken (free_pages r (length w.answers) w.sent) (own_pages x)
  pub lowest : AreLowest (free_pages r (length w.answers) w.sent) (own_pages x)

-- the last event was a turn, and it took nothing
abbrev pub TookNothing : List Event → World → Type 0
TookNothing (Turn most ∷ before) w = length w.answers ≡ w.done
TookNothing before w = ⊥

-- as many answers as the pace are to be reported, or the last turn took nothing, or all were collected
abbrev pub IsToReport : Run → List Event → World → Type 0
IsToReport r before w =
    (length w.answers ≡ w.told + r.geometry.pace)
    ⊎ (TookNothing before w ⊎ (length w.answers ≡ length r.requests))

-- What the driver does next: it collects the answers of a turn, and reports them at its pace, and
-- after a turn that took nothing. Then it submits requests as long as the window has room, rings the
-- tail doorbell once for all of them, and asks for a turn of at most the pace.
abbrev pub IsDue : Run → List Event → World → Event → Type 0
IsDue r before w (Submit x) =
    HasCollected r w × (length w.sent < sent_in_window r w) × IsNext r w x
IsDue r before w Bell =
    HasCollected r w × (length w.sent ≡ sent_in_window r w) × (w.rung < length w.sent)
IsDue r before w (Turn most) =
    HasCollected r w × (length w.sent ≡ sent_in_window r w) × (w.rung ≡ length w.sent)
    × (length w.answers < length r.requests) × (most ≡ r.geometry.pace) × ¬ TookNothing before w
IsDue r before w Collect =
    (length w.answers < w.done) × (length w.answers < w.told + r.geometry.pace)
IsDue r before w Tell = (w.told < length w.answers) × IsToReport r before w
IsDue r before w Elsewhere = ⊥

-- The calls of the bus for each event: a doorbell is written, that of the tail over the memory with
-- what was submitted, or the controller has a turn. There are no others.
abbrev pub Calls : {B : Type 0} → Write B → TailWrite B → BusTurn B → Setting
    → Event → World → World → B → B → Type 0
Calls wrote rang turned t Bell w w' old new =
    wrote old t.controller 0x1000 (slot t (length w.sent)) new × rang old w.mem new
Calls wrote rang turned t (Turn most) w w' old new =
    (count : ℕ) × (w'.done ≡ w.done + count) × turned old w.mem t.controller most count new w'.mem
Calls wrote rang turned t Tell w w' old new =
    wrote old t.controller 0x1004 (slot t (length w.answers)) new
Calls wrote rang turned t e w w' old new = new ≡ old

-- an event of a run is due, and is done by its calls
abbrev pub DoesNext : {B : Type 0} → Write B → TailWrite B → BusTurn B → Run → Doing B
DoesNext wrote rang turned r before e w w' old new =
    IsDue r before w e × Calls wrote rang turned (setting_of r) e w w' old new

-- the run's first m requests were sent, of which those from k on are outstanding
pub record HasSent (r : Run) (m k : ℕ) (xs : List Sent) : Type 0 where
  pub window : m ≤ k + r.geometry.window
  pub some : m ≤ length r.requests
  pub sent : length xs ≡ m
  pub requests : map numbered xs ≡ take m (numbered_of r)
  pub kept : (n : ℕ) (d : Sent) → n < m → LiesInPages r n (slice_index_or xs n d)
  pub own : (n : ℕ) (d : Sent) → n < m
      → All (λ p. IsOf r.pair.pages.first r.pair.pages.count p) (own_pages (slice_index_or xs n d))
  pub taken : AreTaken r.pair.pages (held_pages k xs)

-- a request's pages in its slot of the window
pub record IsHeld (p : CommandPages) (x : Sent) : Type 0 where
  pub few : p.count ≤ length p.numbers
  pub pages : all_pages p ≡ own_pages x

-- a list of requests of which some were sent, the last sixteen in the pages of the window, and some answers were
-- collected
pub record IsUnderWay {B : Type 0} (wrote : Write B) (rang : TailWrite B) (turned : BusTurn B) (start : B) (r : Run)
    (bells turns : ℕ) (b : Batch) (bus : BusValue) (on : B) (l : QueuePairFields) (now : ℕ)
    (bytes : List ℕ) (places : List CommandPages) : Type 0 where
  pub course : Course
  pub on_way : IsOnWay (DoesNext wrote rang turned r) start (way r course bells turns b.told) bus on l
      now bytes
  pub open on_way use *
  pub awake : ¬ TookNothing course.events (world_of (way r course bells turns b.told) bus bytes)
  pub can : All (λ q. IsRequest (limit_of r.bus.state r.controller) q) r.requests
  pub controller : b.ctrl ≡ r.controller
  pub has : HasSent r b.sent b.collected course.sent
  pub open has use *
  pub collected : length course.answers ≡ b.collected
  pub left : l.pages ≡ free_pages r b.collected course.sent
  pub room : length places ≡ 16
  pub slots : (n : ℕ) (p : CommandPages) (d : Sent) → b.sent ≤ n + 16 → n < b.sent
      → IsHeld (slice_index_or places (n % 16) p) (slice_index_or course.sent n d)

-- ---- the requests of a run

-- what is sent to a controller with this limit
abbrev pub requests_in : (limit : ℕ) → Requests → List Request
requests_in limit (sends.Commands ks) = map request_of ks.now
requests_in limit (sends.Entry e bytes) = request_for limit e.now bytes.now ∷ []

-- the replies to commands can be read
abbrev pub AreSendable : Requests → Type 0
AreSendable (sends.Commands ks) = All IsSendable ks.now
AreSendable (sends.Entry e bytes) = Unit {0}

-- these are the requests of a run, and there are pages for each that may be outstanding
pub record IsRunOf (r : Run) (what : Requests) : Type 0 where
  pub requests : requests_in (limit_of r.bus.state r.controller) what ≡ r.requests
  pub can : All (λ q. IsRequest (limit_of r.bus.state r.controller) q) r.requests
  pub sends : AreSendable what
  pub most : ℕ
  pub brief : All (λ q. length_of q.transfer ≤ most) r.requests
  pub room : min r.geometry.window (length r.requests) * pages_for most r.geometry.page_size
      ≤ r.pair.pages.count
