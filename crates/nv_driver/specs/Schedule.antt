-- Schedules of one controller's commands: submit, ring the tail doorbell, turn, collect, ring the
-- head doorbell, in any order.
use Rattle.std.specs.Prelude.{◌≡◌, ◌≢◌, ◌⊎◌, ◌↔◌, ℕ, ◌+◌, ◌-◌, ◌*◌, ◌/◌, ◌%◌, ◌<◌, ◌≤◌, ◌^◌, ◌==◌, ◌&&◌, Bool}
use Rattle.std.specs.Prelude.{false, All, List, [], ◌∷◌, ◌++◌, if◌then◌else◌, length, map, min, not}
use Rattle.std.specs.Prelude.{slice_index_or, take, Ok, Err}
use Rattle.nv_host.specs.Bytes.{bytes_at}
use Rattle.nv_host.specs.Pages.{IsPageSize}
use Rattle.nv_layout.specs.declared.cqe.Cqe.{Cqe}
use Rattle.nv_layout.specs.declared.sqe.Sqe.{Sqe}
use Rattle.nv_layout.specs.declared.cqe.Status.{Status}
use Rattle.nv_prp.specs.Buffer.{IsApart, IsBuffer, IsListPlace, IsOutside, KeepsOutsideList, StaysFor, buffer_places}
use Rattle.nv_prp.specs.Place.{AreDistinct, read_at, written_at}
use Rattle.nv_prp.specs.Transfer.{PrpTransfer, data_pages, most_bytes, transfer}
use Rattle.nv_queue.specs.Numbers.{IsDepth, kept_number, slot_of}
use Rattle.nv_queue.specs.Rings.{CollectNumbers, SubmitNumbers}
use Rattle.nv_queue.specs.Slots.{HoldsTags, IsAwaitedThere, awaited_completion, completion_at}
use Rattle.nv_queue.specs.Slots.{with_submission}
use Rattle.nv_command.specs.Logs.{without_phases}
use Rattle.nv_command.specs.Reply.{data_of, reply_in}
use Rattle.nv_command.specs.declared.command.Command.{Command}
use Rattle.nv_command.specs.declared.reply.Reply.{Reply}
use Rattle.nv_command.specs.declared.transfer.Transfer.{Transfer}
use Rattle.nv_command.specs.declared.transfer.Transfer.TheVariants.{FromHost, NoData, ToHost}
use Rattle.nv_register.specs.RegisterBank.{with_register_at}
use Rattle.nv_register.specs.declared.register_bank.RegisterBank.{RegisterBank}
use Rattle.nv_register.specs.declared.rings.Rings.{Rings}
use Rattle.nv_model.specs.State.{State}
use Rattle.nv_model.specs.Conditions.{limit_of}
use Rattle.nv_model.specs.Step.{Step}
use Rattle.nv_model.specs.WellFormed.{IsWellFormed}
use Rattle.nv_bus.specs.Call.{length_of, sent_from}
use Rattle.nv_bus.specs.Entry.{asked_step, dword0_in, status_in}
use Rattle.nv_bus.specs.Turn.{BankTurn, ready_bank, site}
use Rattle.nv_driver.specs.Answer.{Answer}
use Rattle.nv_driver.specs.Request.{Asked, IsReadable, IsRequest, Request, entry_as, received_as}

-- ---- requests, one at a time

-- a request with its command identifier, the numbers of its data pages and the offset of its data
-- in the first one, its two pages for a list and the offset of a list in the first one, and its
-- data pointer
pub record Sent : Type 0 where
  pub request : Request
  pub cid : ℕ
  pub pages : List ℕ
  pub offset : ℕ
  pub first : ℕ
  pub second : ℕ
  pub list_offset : ℕ
  pub prp1 : ℕ
  pub prp2 : ℕ

-- what is asked for, its NSID and its command identifier
pub record Numbered : Type 0 where
  pub asked : Asked
  pub nsid : ℕ
  pub cid : ℕ

-- its effect on controller c
abbrev pub step_of : ℕ → State → Numbered → Step
step_of c s x = asked_step x.asked s c x.nsid x.cid

-- the state after requests to controller c, one after another
abbrev pub state_after_all : ℕ → State → List Numbered → State
state_after_all c s [] = s
state_after_all c s (x ∷ xs) = state_after_all c (step_of c s x).state xs

-- their answers, as they are received
abbrev pub answers_of_all : ℕ → State → List Numbered → List Answer
answers_of_all c s [] = []
answers_of_all c s (x ∷ xs) = received_as x.asked (step_of c s x).answer
    ∷ answers_of_all c (step_of c s x).state xs

-- a request that was sent, with its NSID and its command identifier
abbrev pub numbered : Sent → Numbered
numbered x =
    record { asked = x.request.asked; nsid = x.request.entry.nsid; cid = x.cid }

-- the state after requests that were sent to controller c
abbrev pub after : ℕ → State → List Sent → State
after c s xs = state_after_all c s (map numbered xs)

-- the answers to requests that were sent to controller c
abbrev pub answers_to : ℕ → State → List Sent → List Answer
answers_to c s xs = answers_of_all c s (map numbered xs)

-- the effect of request x after the first n of some requests
abbrev pub step_after : ℕ → State → List Sent → ℕ → Sent → Step
step_after c s xs n x = step_of c (after c s (take n xs)) (numbered x)

-- ---- what a schedule runs over

-- a controller and the greatest length of the data of its commands, the memory's page size, the
-- addresses and the depth of the rings, the number of the first command as the rings keep it, and
-- the controller's other registers
pub record Setting : Type 0 where
  pub controller : ℕ
  pub limit : ℕ
  pub page_size : ℕ
  pub sq : ℕ
  pub cq : ℕ
  pub depth : ℕ
  pub start : ℕ
  pub bank : RegisterBank

-- The memory, the subsystem, the controller's registers, the commands that were sent, and the
-- answers that were collected. For `rung` of the commands the tail doorbell was rung, `done` were
-- executed by turns, and for `told` the head doorbell was rung.
pub record World : Type 0 where
  pub mem : List ℕ
  pub state : State
  pub bank : RegisterBank
  pub sent : List Sent
  pub rung : ℕ
  pub done : ℕ
  pub told : ℕ
  pub answers : List Answer

-- the number of command n as the rings keep it, and its slot
abbrev pub number : Setting → ℕ → ℕ
number t n = kept_number t.depth (t.start + n)

-- the slot of command n
abbrev pub slot : Setting → ℕ → ℕ
slot t n = slot_of t.depth (number t n)

-- the host's sides of the rings, by how many commands were sent, collected, and reported by the head doorbell
abbrev pub submit_ring : Setting → ℕ → ℕ → SubmitNumbers
submit_ring t sent collected =
    record { base = t.sq; depth = t.depth; submitted = number t sent; known = number t collected }

-- the host's side of the completion ring
abbrev pub collect_ring : Setting → ℕ → ℕ → CollectNumbers
collect_ring t collected told = record {
  base = t.cq;
  depth = t.depth;
  collected = number t collected;
  told = number t told;
  untold = not (told == collected);
}

-- the device's sides
abbrev pub device_rings : Setting → ℕ → ℕ → ℕ → Rings
device_rings t rung done told = record {
  page_size = t.page_size;
  submission =
      record { base = t.sq; depth = t.depth; fetched = number t done; rung = number t rung };
  completion =
      record { base = t.cq; depth = t.depth; posted = number t done; told = number t told };
}

-- the registers of the schedule's controller with these rings
abbrev pub bank_with : Setting → Rings → RegisterBank
bank_with t rings = ready_bank t.bank rings false

-- ---- submitting

-- the entry of a request that was sent
abbrev pub entry : Sent → Sqe
entry x = entry_as x.request x.cid x.prp1 x.prp2

-- the length of a request's data in bytes
abbrev pub data_length : Sent → ℕ
data_length x = length_of x.request.transfer

-- the pages of a request: two for a list, and then the pages of its data
abbrev pub own_pages : Sent → List ℕ
own_pages x = x.first ∷ x.second ∷ x.pages

-- the two commands have no page in common
abbrev pub AreApart : Sent → Sent → Type 0
AreApart x y = All (λ p. All (λ q. p ≢ q) (own_pages y)) (own_pages x)

-- the bytes of the pages don't change
abbrev pub PagesStay : ℕ → Sent → List ℕ → List ℕ → Type 0
PagesStay page_size x old new =
    All (λ p. bytes_at new (p * page_size) page_size ≡ bytes_at old (p * page_size) page_size)
    (own_pages x)

-- n bytes don't overlap the pages
abbrev pub AreOutside : ℕ → Sent → ℕ → ℕ → Type 0
AreOutside page_size x from n = All (λ p. IsOutside page_size p from n) (own_pages x)

-- The ring has a free slot; the request is valid; its pages hold its data, are distinct, and belong
-- to no ring and to no outstanding command.
pub record MaySubmit (t : Setting) (w : World) (x : Sent) : Type 0 where
  pub free : length w.sent + 1 < length w.answers + t.depth
  pub can : IsRequest t.limit x.request
  pub cid : x.cid < 2 ^ 16
  pub buffer : IsBuffer w.mem t.page_size x.pages x.offset (data_length x)
  pub list : IsListPlace w.mem t.page_size x.first x.second x.list_offset
  pub distinct : AreDistinct (own_pages x)
  pub submissions : AreOutside t.page_size x t.sq (64 * t.depth)
  pub completions : AreOutside t.page_size x t.cq (16 * t.depth)
  pub apart : (n : ℕ) (d : Sent) → length w.answers ≤ n → n < length w.sent
      → AreApart (slice_index_or w.sent n d) x

-- the places of a command's data
abbrev pub places : ℕ → Sent → List ℕ
places page_size x = buffer_places page_size x.pages x.offset (data_length x)

-- what the host sends with a command is at these places
abbrev pub HoldsSent : ℕ → Sent → List ℕ → Type 0
HoldsSent page_size x mem =
    sent_from x.request.transfer mem (places page_size x) ≡ x.request.sends

-- the transfer of a command's data, as its data pointer describes it
abbrev pub pointed : ℕ → Sent → List ℕ → PrpTransfer
pointed page_size x mem = transfer page_size mem x.prp1 x.prp2 (data_length x)

-- the data pointer of a command with data names the places of the data, as long as its list doesn't
-- change in this memory
abbrev pub StaysNamed : ℕ → Sent → List ℕ → Type 0
StaysNamed page_size x mem =
    0 < data_length x → StaysFor (pointed page_size x mem) x.pages x.offset x.first x.second

-- only bytes of the command's list change, and nothing if its data pointer has no list
abbrev pub ChangesList : ℕ → Sent → List ℕ → List ℕ → Type 0
ChangesList page_size x old new =
    let pages = data_pages (pointed page_size x new) in
    let start = x.first * page_size + x.list_offset in
    (pages ≤ 2 → new ≡ old)
    × (2 < pages → KeepsOutsideList ((page_size - start % page_size) / 8) start (x.second * page_size)
    pages old new)

-- the command's pages are prepared: its list and then what the host sends were written, and its data pointer
-- describes them
pub record IsPrepared (page_size : ℕ) (x : Sent) (old new : List ℕ) : Type 0 where
  pub listed : List ℕ
  pub list : ChangesList page_size x old listed
  pub written : new ≡ written_at listed (places page_size x) x.request.sends
  pub few : data_length x ≤ most_bytes
  pub len : length new ≡ length old
  pub prp1 : x.prp1 < 2 ^ 64
  pub prp2 : x.prp2 < 2 ^ 64
  pub sent : HoldsSent page_size x new
  pub stays : StaysNamed page_size x new

-- ---- collecting

-- whether a status is a success
abbrev pub is_success : Status → Bool
is_success status = status.sct == 0 && status.sc == 0

-- the bytes that the controller sends
abbrev pub received_from : Transfer → List ℕ → List ℕ → List ℕ
received_from NoData bytes places = []
received_from (ToHost n) bytes places = read_at bytes places
received_from (FromHost n) bytes places = []

-- the answer to a command, from its completion and the data from the controller
abbrev pub answer_from : Command → Cqe → List ℕ → Answer
answer_from k completion bytes =
    if is_success completion.status
    then Ok (reply_in k completion.command_specific bytes)
    else Err completion.status

-- the answer to whatever was asked for
abbrev pub answer_to : Asked → Cqe → List ℕ → Answer
answer_to (Ok k) completion bytes = answer_from k completion bytes
answer_to (Err code) completion bytes = Err completion.status

-- what the controller sent, in the request's pages
abbrev pub bytes_read : ℕ → Sent → List ℕ → List ℕ
bytes_read page_size x mem = received_from x.request.transfer mem (places page_size x)

-- the answer to a request, read from its completion and its pages
abbrev pub answer_read : ℕ → Sent → List ℕ → Cqe → Answer
answer_read page_size x mem completion =
    answer_to x.request.asked completion (bytes_read page_size x mem)

-- the data of a reply was written, with entries of the error log that have their phase tags
abbrev pub Delivers : Asked → Answer → List ℕ → Type 0
Delivers (Ok k) (Ok reply) bytes =
    (r : Reply) × (without_phases r ≡ reply) × (bytes ≡ data_of k r)
Delivers asked answer bytes = Unit {0}

-- an answer to what was asked for: the completion says it, the data was written, and it can be read
pub record IsAnswered (page_size : ℕ) (x : Sent) (mem : List ℕ) (completion : Cqe) (answer : Answer)
    : Type 0 where
  pub dword0 : completion.command_specific ≡ dword0_in answer
  pub status : completion.status ≡ status_in answer
  pub bytes : Delivers x.request.asked answer (bytes_read page_size x mem)
  pub reads : IsReadable x.request.asked → answer_read page_size x mem completion
      ≡ received_as x.request.asked answer

-- the host's completion ring, by which the next completion is awaited
abbrev pub awaited : Setting → World → CollectNumbers
awaited t w = collect_ring t (length w.answers) w.told

-- the answer to a request, read from the awaited completion and its pages
abbrev pub answer_awaited : Setting → World → Sent → Answer
answer_awaited t w x = answer_read t.page_size x w.mem (awaited_completion w.mem (awaited t w))

-- ---- events

-- a request is submitted, a doorbell is rung, the controller has a turn, or the host collects or writes elsewhere
pub data Event : Type 0 where
  Submit : Sent → Event
  Bell : Event
  Turn : (most : ℕ) → Event
  Collect : Event
  Tell : Event
  Elsewhere : Event

-- The host wrote elsewhere: the bytes of the rings have not changed, nor have those of the pages of
-- each command that was sent and whose answer wasn't collected.
pub record LeavesOutstanding (t : Setting) (w : World) (new : List ℕ) : Type 0 where
  pub len : length new ≡ length w.mem
  pub submissions : bytes_at new t.sq (64 * t.depth) ≡ bytes_at w.mem t.sq (64 * t.depth)
  pub completions : bytes_at new t.cq (16 * t.depth) ≡ bytes_at w.mem t.cq (16 * t.depth)
  pub pages : (n : ℕ) (d : Sent) → length w.answers ≤ n → n < length w.sent
      → PagesStay t.page_size (slice_index_or w.sent n d) w.mem new

-- the effect of each event, as `build`, `push`, `write32`, `turn`, `poll` and `head_to_tell` promise it
abbrev pub Happens : Setting → Event → World → World → Type 0
Happens t (Submit x) w w' =
    MaySubmit t w x
    × (ready : List ℕ) × IsPrepared t.page_size x w.mem ready
    × (w' ≡ record w {
      mem = with_submission ready (submit_ring t (length w.sent) (length w.answers)) (entry x);
      sent = w.sent ++ x ∷ [];
    })
Happens t Bell w w' =
    w' ≡ record w {
      bank = with_register_at w.bank 0x1000 (slot t (length w.sent));
      rung = length w.sent;
    }
Happens t (Turn most) w w' =
    (count : ℕ) × BankTurn t.page_size t.controller most count (site w.state w.bank w.mem)
    (site w'.state w'.bank w'.mem)
    × (w' ≡ record w { mem = w'.mem; state = w'.state; bank = w'.bank; done = w.done + count })
Happens t Collect w w' =
    (IsAwaitedThere w.mem (awaited t w) × (d : Sent)
    × (w' ≡ record w {
      answers = w.answers
          ++ answer_awaited t w (slice_index_or w.sent (length w.answers) d) ∷ [];
    }))
    ⊎ ((¬ IsAwaitedThere w.mem (awaited t w)) × (w' ≡ w))
Happens t Tell w w' =
    w' ≡ record w {
      bank = with_register_at w.bank 0x1004 (slot t (length w.answers));
      told = length w.answers;
    }
Happens t Elsewhere w w' =
    LeavesOutstanding t w w'.mem × (w' ≡ record w { mem = w'.mem })

-- these events happen one after another, from the first state to the second
abbrev pub Runs : Setting → List Event → World → World → Type 0
Runs t [] w w' = w' ≡ w
Runs t (e ∷ es) w w' = (mid : World) × Happens t e w mid × Runs t es mid w'

-- what is said of an event, with the events before it, and the states and the buses before and after it
abbrev pub Doing : Type 0 → Type 1
Doing B = List Event → Event → World → World → B → B → Type 0

-- events, the last one first, of each of which this is said, lead from one state and bus to others
abbrev pub Follows : {B : Type 0} → Doing B → Setting → List Event → World → B → World → B → Type 0
Follows doing t [] w b w' b' = (w' ≡ w) × (b' ≡ b)
Follows doing t (e ∷ before) w b w' b' =
    (mid : World) × (on : _) × Follows doing t before w b mid on × doing before e mid w' on b'
    × Happens t e mid w'

-- ---- the law

-- no command is outstanding: a ready controller of a well-formed subsystem, whose rings lie in the
-- memory, don't overlap, and have the phase tags that are due
pub record IsIdle (t : Setting) (w : World) : Type 0 where
  pub page_size : IsPageSize t.page_size
  pub deep : IsDepth t.depth
  pub start : t.start < 2 * t.depth
  pub rings : IsApart t.sq (64 * t.depth) t.cq (16 * t.depth)
  pub submissions : t.sq + 64 * t.depth ≤ length w.mem
  pub completions : t.cq + 16 * t.depth ≤ length w.mem
  pub tags : HoldsTags w.mem t.cq t.depth t.start
  pub bank : w.bank ≡ bank_with t (device_rings t 0 0 0)
  pub state : IsWellFormed w.state
  pub controller : t.controller < length w.state.controllers
  pub limit : limit_of w.state t.controller ≡ t.limit
  pub sent : w.sent ≡ []
  pub rung : w.rung ≡ 0
  pub done : w.done ≡ 0
  pub told : w.told ≡ 0
  pub answers : w.answers ≡ []

-- the completion and the pages of command n hold its answer, under its command identifier and with
-- the head after it
pub record Holds (t : Setting) (s : State) (w : World) (n : ℕ) (x : Sent) : Type 0 where
  pub answer : IsAnswered t.page_size x w.mem (completion_at w.mem t.cq (slot t n))
      (step_after t.controller s w.sent n x).answer
  pub cid : (completion_at w.mem t.cq (slot t n)).cid ≡ x.cid
  pub head : (completion_at w.mem t.cq (slot t n)).sq_head ≡ slot t (n + 1)

-- n bytes in no ring, and in no page of a command that was sent, from this first one on
pub record AreOthers (t : Setting) (first : ℕ) (sent : List Sent) (from n : ℕ) : Type 0 where
  pub submissions : IsApart t.sq (64 * t.depth) from n
  pub completions : IsApart t.cq (16 * t.depth) from n
  pub pages : (i : ℕ) (d : Sent) → first ≤ i → i < length sent
      → AreOutside t.page_size (slice_index_or sent i d) from n

-- how many entries a turn takes: the least of the greatest number, of those that are waiting, and
-- of the free slots for completions
abbrev pub least : Setting → World → ℕ → ℕ
least t w most = min most (min (w.rung - w.done) (t.depth - 1 - (w.done - w.told)))

-- answer n of those that were collected, if it can be read, is the same as if the requests were sent one at a time
abbrev pub IsCollected : Setting → State → World → ℕ → Type 0
IsCollected t s w n =
    (x : Sent) (d : Answer) → IsReadable (slice_index_or w.sent n x).request.asked
    → slice_index_or w.answers n d ≡ slice_index_or (answers_to t.controller s w.sent) n d

-- The collected answers are the first ones that the requests get one at a time, and the subsystem is
-- the one after the requests that were executed. An answer is held from its command's
-- turn until it is collected. The awaited completion is found if and only if a command was executed
-- whose answer wasn't collected. A turn takes as many entries as it can. As long as the host
-- doesn't write elsewhere, bytes don't change that are in no ring, and in no page of a command that
-- is outstanding now or is sent then.
pub record IsSerial (t : Setting) (s : State) (w : World) : Type 0 where
  pub answers : (n : ℕ) → n < length w.answers → IsCollected t s w n
  pub state : w.state ≡ after t.controller s (take w.done w.sent)
  pub collected : length w.answers ≤ w.done
  pub done : w.done ≤ length w.sent
  pub held : (n : ℕ) (d : Sent) → length w.answers ≤ n → n < w.done
      → Holds t s w n (slice_index_or w.sent n d)
  pub found : IsAwaitedThere w.mem (awaited t w) ↔ (length w.answers < w.done)
  pub turns : (most : ℕ) (next : World) → Happens t (Turn most) w next → next.done ≡ w.done
      + least t w most
  pub others : (events : List Event) (next : World) (from n : ℕ) → All (λ e. e ≢ Elsewhere) events
      → Runs t events w next → AreOthers t (length w.answers) next.sent from n
      → bytes_at next.mem from n ≡ bytes_at w.mem from n

-- every schedule from an idle controller is serial
abbrev pub EveryScheduleIsSerial : Type 0
EveryScheduleIsSerial = (t : Setting) (events : List Event) (old new : World) → IsIdle t old
    → Runs t events old new → IsSerial t old.state new
