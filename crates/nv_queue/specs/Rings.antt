-- The four sides of a queue pair's rings: the address of a ring, how many slots it has, and its numbers.
use Rattle.std.specs.Prelude.{◌≡◌, ℕ, ◌*◌, ◌<◌, Bool, false, true}
use Rattle.nv_queue.specs.Numbers.{IsDepth, IsFull, IsWithinRing, first_in_slot, next, number_of}
use Rattle.nv_queue.specs.declared.ring.Ring.{Ring}

-- the host's side of a submission ring: the number of the next submission, and the number below
-- which the host knows that all submissions were taken
pub record SubmitNumbers : Type 0 where
  pub base : ℕ
  pub depth : ℕ
  pub submitted : ℕ
  pub known : ℕ

-- the host's side of a completion ring: the number of the awaited completion, the number that the
-- head doorbell was last rung for, and whether more completions were collected since
pub record CollectNumbers : Type 0 where
  pub base : ℕ
  pub depth : ℕ
  pub collected : ℕ
  pub told : ℕ
  pub untold : Bool

-- the device's side of a submission ring: the number of the next submission to take, and the number
-- that the tail doorbell was last rung for
pub record FetchNumbers : Type 0 where
  pub base : ℕ
  pub depth : ℕ
  pub fetched : ℕ
  pub rung : ℕ

-- the device's side of a completion ring: the number of the next completion, and the number that
-- the head doorbell was last rung for
pub record PostNumbers : Type 0 where
  pub base : ℕ
  pub depth : ℕ
  pub posted : ℕ
  pub told : ℕ

-- ---- what each side keeps

-- the numbers of a ring's places
abbrev pub own_number : Ring → ℕ
own_number ring = number_of ring.depth ring.own.slot ring.own.second

-- the number of the place that was told last
abbrev pub told_number : Ring → ℕ
told_number ring = number_of ring.depth ring.told.slot ring.told.second

-- both places lie in the ring
abbrev pub IsRing : Ring → Type 0
IsRing ring = IsDepth ring.depth × (ring.own.slot < ring.depth) × (ring.told.slot < ring.depth)

-- both places lie in the ring, and the told number is behind the own one by less than a depth
abbrev pub IsToldBehind : Ring → Type 0
IsToldBehind ring = IsRing ring × IsWithinRing ring.depth (told_number ring) (own_number ring)

-- both places lie in the ring, and the told number is ahead of the own one by less than a depth
abbrev pub IsToldAhead : Ring → Type 0
IsToldAhead ring = IsRing ring × IsWithinRing ring.depth (own_number ring) (told_number ring)

-- ---- what holds for each ring

-- both numbers of a host's submission ring are within its depth
abbrev pub IsSubmitRing : SubmitNumbers → Type 0
IsSubmitRing ring = IsWithinRing ring.depth ring.known ring.submitted

-- both numbers of a device's submission ring are within its depth
abbrev pub IsFetchRing : FetchNumbers → Type 0
IsFetchRing ring = IsWithinRing ring.depth ring.fetched ring.rung

-- both numbers of a device's completion ring are within its depth
abbrev pub IsPostRing : PostNumbers → Type 0
IsPostRing ring = IsWithinRing ring.depth ring.told ring.posted

-- a host can collect more than a depth without ringing the doorbell, from a device that doesn't wait for it
pub record IsCollectRing (ring : CollectNumbers) : Type 0 where
  pub deep : IsDepth ring.depth
  pub collected : ring.collected < 2 * ring.depth
  pub told : ring.told < 2 * ring.depth
  pub all_told : ring.untold ≡ false → ring.collected ≡ ring.told

-- ---- full rings

-- there is no free slot for another submission
abbrev pub IsSubmitFull : SubmitNumbers → Type 0
IsSubmitFull ring = IsFull ring.depth ring.known ring.submitted

-- there is no free slot for another completion
abbrev pub IsPostFull : PostNumbers → Type 0
IsPostFull ring = IsFull ring.depth ring.told ring.posted

-- ---- a ring after one number more

-- the ring after the host wrote one more submission
abbrev pub submitted_one : SubmitNumbers → SubmitNumbers
submitted_one ring = record ring { submitted = next ring.depth ring.submitted }

-- the ring after the host collected one more completion, for which it still has to ring the doorbell
abbrev pub collected_one : CollectNumbers → CollectNumbers
collected_one ring = record ring { collected = next ring.depth ring.collected; untold = true }

-- the ring after the device took one more submission
abbrev pub fetched_one : FetchNumbers → FetchNumbers
fetched_one ring = record ring { fetched = next ring.depth ring.fetched }

-- the ring after the device posted one more completion
abbrev pub posted_one : PostNumbers → PostNumbers
posted_one ring = record ring { posted = next ring.depth ring.posted }

-- ---- a ring after a slot was received, which means the first number in it

-- the ring after the host received this submission queue head
abbrev pub known_to : SubmitNumbers → ℕ → SubmitNumbers
known_to ring head = record ring { known = first_in_slot ring.depth ring.known head }

-- the ring after the device received this submission queue tail
abbrev pub rung_to : FetchNumbers → ℕ → FetchNumbers
rung_to ring tail = record ring { rung = first_in_slot ring.depth ring.fetched tail }

-- the ring after the device received this completion queue head
abbrev pub told_to : PostNumbers → ℕ → PostNumbers
told_to ring head = record ring { told = first_in_slot ring.depth ring.told head }

-- the head doorbell was rung for all that was collected
abbrev pub told_all : CollectNumbers → CollectNumbers
told_all ring = record ring { told = ring.collected; untold = false }

-- ---- a ring whose numbers begin at 0 again

-- a host's submission ring with no submissions
abbrev pub renewed_submit : SubmitNumbers → SubmitNumbers
renewed_submit ring = record ring { submitted = 0; known = 0 }

-- a host's completion ring with nothing collected
abbrev pub renewed_collect : CollectNumbers → CollectNumbers
renewed_collect ring = record ring { collected = 0; told = 0; untold = false }

-- a device's submission ring with nothing taken
abbrev pub renewed_fetch : FetchNumbers → FetchNumbers
renewed_fetch ring = record ring { fetched = 0; rung = 0 }

-- a device's completion ring with nothing posted
abbrev pub renewed_post : PostNumbers → PostNumbers
renewed_post ring = record ring { posted = 0; told = 0 }
