-- What happens in a turn of a controller.
use Rattle.std.specs.Prelude.{◌≡◌, ℕ, zero, suc, ◌+◌, ◌*◌, ◌-◌, ◌<◌, ◌≤◌, ◌==◌, ◌&&◌, min, not}
use Rattle.std.specs.Prelude.{nat_le, Bool, true, false, List, length, slice_set}
use Rattle.nv_queue.specs.Numbers.{distance}
use Rattle.nv_queue.specs.Rings.{IsFetchRing, IsPostRing}
use Rattle.nv_queue.specs.Slots.{completion_place, submission_place}
use Rattle.nv_register.specs.Readiness.{is_fatal}
use Rattle.nv_register.specs.declared.register_bank.RegisterBank.{RegisterBank}
use Rattle.nv_register.specs.declared.readiness.Readiness.{Readiness}
use Rattle.nv_register.specs.declared.readiness.Readiness.TheVariants.{Off, Failed, Ready}
use Rattle.nv_register.specs.declared.rings.Rings.{Rings}
use Rattle.nv_model.specs.State.{State}
use Rattle.nv_bus.specs.Bus.{BusValue, bank_at}
use Rattle.nv_bus.specs.Entry.{One, Scene, scene}

-- an entry is waiting, and there is a free slot for its completion
abbrev pub can_take : Rings → Bool
can_take r =
    not (r.submission.fetched == r.submission.rung)
    && not
    (distance r.completion.depth r.completion.posted r.completion.told == r.completion.depth - 1)

-- a memory with this page size and length has the page size with which the controller was enabled,
-- and holds the entry's slot and the slot of its completion
abbrev pub reaches : Rings → ℕ → ℕ → Bool
reaches r page_size size =
    (page_size == r.page_size)
    && (nat_le
    (submission_place r.submission.base r.submission.depth r.submission.fetched + 64) size
    && nat_le (completion_place r.completion.base r.completion.depth r.completion.posted + 16) size)

-- an entry that is taken
pub record Takes (page_size c : ℕ) (old new : Scene) : Type 0 where
  pub can : can_take old.rings ≡ true
  pub reached : reaches old.rings page_size (length old.bytes) ≡ true
  pub one : One c old new

-- this number of entries, one after another, each in the memory that the one before left
abbrev pub Taken : ℕ → ℕ → ℕ → Scene → Scene → Type 0
Taken zero page_size c old new = new ≡ old
Taken (suc k) page_size c old new =
    (mid : Scene) × Takes page_size c old mid × Taken k page_size c mid new

-- where a turn stops: after the greatest number of entries that it may take, where none can be
-- taken, or where the memory does not hold a slot for the next one, which causes a fatal status
abbrev pub Stops : ℕ → ℕ → ℕ → Scene → Bool → Type 0
Stops page_size most count x fatal =
    (count ≤ most) × (count < most → can_take x.rings ≡ true → fatal ≡ true)
    × (fatal ≡ true → (count < most) × (can_take x.rings ≡ true)
    × (reaches x.rings page_size (length x.bytes) ≡ false))

-- a turn of a ready controller
pub record RingsTurn (page_size c most count : ℕ) (old new : Scene) (fatal : Bool) : Type 0 where
  pub entries : Taken count page_size c old new
  pub stop : Stops page_size most count new fatal

-- what a turn of one controller reads and changes
pub record Site : Type 0 where
  pub state : State
  pub bank : RegisterBank
  pub bytes : List ℕ

-- a site of these three
abbrev pub site : State → RegisterBank → List ℕ → Site
site state bank bytes = record { state = state; bank = bank; bytes = bytes }

-- the registers when the controller is ready with these rings
abbrev pub ready_bank : RegisterBank → Rings → Bool → RegisterBank
ready_bank p rings fatal = record p { readiness = Ready rings fatal }

-- a turn, depending on whether the controller is ready
abbrev pub TurnBy : Readiness → ℕ → ℕ → ℕ → ℕ → Site → Site → Type 0
TurnBy Off page_size c most count old new = (count ≡ 0) × (new ≡ old)
TurnBy Failed page_size c most count old new = (count ≡ 0) × (new ≡ old)
TurnBy (Ready rings true) page_size c most count old new = (count ≡ 0) × (new ≡ old)
TurnBy (Ready rings false) page_size c most count old new =
    (last : Scene) × (fatal : Bool)
    × RingsTurn page_size c most count (scene old.state rings old.bytes) last fatal
    × (new ≡ site last.state (ready_bank old.bank last.rings fatal) last.bytes)

-- a turn of controller c, which takes nothing if it isn't ready or has a fatal status
abbrev pub BankTurn : ℕ → ℕ → ℕ → ℕ → Site → Site → Type 0
BankTurn page_size c most count old new =
    TurnBy old.bank.readiness page_size c most count old new

-- a turn of controller c of a bus; the registers and rings of the other controllers don't change
pub record Turn (page_size c most count : ℕ) (b : BusValue) (bytes : List ℕ) (b' : BusValue)
    (bytes' : List ℕ) : Type 0 where
  pub own : BankTurn page_size c most count (site b.state (bank_at b.banks c) bytes)
      (site b'.state (bank_at b'.banks c) bytes')
  pub others : b'.banks ≡ slice_set b.banks c (bank_at b'.banks c)

-- ---- how many entries a turn takes

-- both rings lie in a memory with this page size and length, and their numbers are those of rings
pub record RingsLie (r : Rings) (page_size size : ℕ) : Type 0 where
  pub page : page_size ≡ r.page_size
  pub submission : r.submission.base + 64 * r.submission.depth ≤ size
  pub completion : r.completion.base + 16 * r.completion.depth ≤ size
  pub fetch : IsFetchRing r.submission
  pub post : IsPostRing r.completion

-- how many entries are waiting
abbrev pub waiting : Rings → ℕ
waiting r = distance r.submission.depth r.submission.rung r.submission.fetched

-- how many completions have a free slot
abbrev pub free_slots : Rings → ℕ
free_slots r =
    r.completion.depth - 1 - distance r.completion.depth r.completion.posted r.completion.told

-- the least of three numbers: the entries that may be taken, the entries that are waiting, and the free slots
abbrev pub turn_count : ℕ → Rings → ℕ
turn_count most r = min most (min (waiting r) (free_slots r))

-- a ready controller takes this number of entries if its rings lie in the memory, and gets no fatal status
abbrev pub TakesCount : ℕ → ℕ → ℕ → RegisterBank → ℕ → RegisterBank → Type 0
TakesCount page_size size most old count new =
    (r : Rings) → old.readiness ≡ Ready r false → RingsLie r page_size size
    → (count ≡ turn_count most r) × (is_fatal new.readiness ≡ false)
