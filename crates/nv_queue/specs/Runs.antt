-- Runs over one completion ring: what the device posts to it, and the host polls.
use Rattle.std.specs.Prelude.{◌≡◌, ◌↔◌, ◌⊎◌, ℕ, ◌+◌, ◌*◌, ◌<◌, ◌≤◌, false, true, List, [], ◌∷◌, ◌++◌, length}
use Rattle.nv_layout.specs.Cqe.{CqeFits}
use Rattle.nv_layout.specs.declared.cqe.Cqe.{Cqe}
use Rattle.nv_queue.specs.Numbers.{IsDepth, IsSlotBetween, slot_of}
use Rattle.nv_queue.specs.Rings.{CollectNumbers, IsPostFull, PostNumbers, collected_one, posted_one, told_all, told_to}
use Rattle.nv_queue.specs.Slots.{IsAwaitedThere, awaited_completion, completion_at, put_as, with_completion}

-- the device puts a completion, the host polls, the host writes its head to the doorbell
pub data Event : Type 0 where
  Put : Cqe → Event
  Poll : Event
  Tell : Event

-- the memory, both sides of the ring, and what was posted and polled since it was new
pub record Exchange : Type 0 where
  pub bytes : List ℕ
  pub device : PostNumbers
  pub host : CollectNumbers
  pub posted : List Cqe
  pub polled : List Cqe

-- the exchange after the device put a completion
abbrev pub with_put : Exchange → Cqe → Exchange
with_put x completion = record x {
  bytes = with_completion x.bytes x.device completion;
  device = posted_one x.device;
  posted = x.posted ++ put_as x.device completion ∷ [];
}

-- the exchange after the host polled the awaited completion
abbrev pub with_polled : Exchange → Exchange
with_polled x = record x {
  host = collected_one x.host;
  polled = x.polled ++ awaited_completion x.bytes x.host ∷ [];
}

-- the slot of the awaited completion, which is the head to write
abbrev pub told_slot : Exchange → ℕ
told_slot x = slot_of x.host.depth x.host.collected

-- the host's side after it wrote its head to the doorbell
abbrev pub with_told : Exchange → Exchange
with_told x = record x { host = told_all x.host }

-- the device's side after it received that head
abbrev pub with_head : Exchange → Exchange
with_head x = record x { device = told_to x.device (told_slot x) }

-- the device takes that head: it lies between the numbers that the device knows
abbrev pub IsHeadTaken : Exchange → Type 0
IsHeadTaken x = IsSlotBetween x.device.depth x.device.told x.device.posted (told_slot x)

-- the effect of an event, as `put`, `poll`, `head_to_tell` and `head` promise it
abbrev pub Happens : Event → Exchange → Exchange → Type 0
Happens (Put completion) x y =
    CqeFits completion
    × ((IsPostFull x.device × (y ≡ x)) ⊎ ((¬ IsPostFull x.device) × (y ≡ with_put x completion)))
Happens Poll x y =
    (IsAwaitedThere x.bytes x.host × (y ≡ with_polled x))
    ⊎ ((¬ IsAwaitedThere x.bytes x.host) × (y ≡ x))
Happens Tell x y =
    ((x.host.untold ≡ false) × (y ≡ x))
    ⊎ (((x.host.untold ≡ true) × IsHeadTaken x × (y ≡ with_told (with_head x)))
    ⊎ ((x.host.untold ≡ true) × (¬ IsHeadTaken x) × (y ≡ with_told x)))

-- these events happen one after another, from the first exchange to the second
abbrev pub Runs : List Event → Exchange → Exchange → Type 0
Runs [] x y = y ≡ x
Runs (event ∷ events) x y = (z : Exchange) × Happens event x z × Runs events z y

-- a ring that was just created or renewed, in a memory that holds it, with phase tag 0 in each slot
pub record IsNew (base depth : ℕ) (x : Exchange) : Type 0 where
  pub deep : IsDepth depth
  pub inside : base + 16 * depth ≤ length x.bytes
  pub blank : (slot : ℕ) → slot < depth → (completion_at x.bytes base slot).phase ≡ false
  pub device : x.device ≡ record { base = base; depth = depth; posted = 0; told = 0 }
  pub host : x.host ≡ record { base = base; depth = depth; collected = 0; told = 0; untold = false }
  pub posted : x.posted ≡ []
  pub polled : x.polled ≡ []

-- What was polled is the beginning of what was posted, each once and in order. Another one is found
-- if and only if one is left, and fewer than a depth are left.
pub record IsInOrder (depth : ℕ) (x : Exchange) : Type 0 where
  pub prefix : (rest : List Cqe) × (x.polled ++ rest ≡ x.posted)
  pub found : IsAwaitedThere x.bytes x.host ↔ (length x.polled < length x.posted)
  pub few : length x.posted < length x.polled + depth

-- every run over a new ring is in order
abbrev pub EveryRunIsInOrder : Type 0
EveryRunIsInOrder = (base depth : ℕ) (events : List Event) (x y : Exchange)
    → IsNew base depth x → Runs events x y → IsInOrder depth y
