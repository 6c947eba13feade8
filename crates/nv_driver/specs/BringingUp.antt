-- What bringing controllers up does, call by call. `wrote`, `read` and `zeroed` are what is said of
-- a write, of a read, and of zeroing a completion ring.
use Rattle.std.specs.Prelude.{◌≡◌, ◌≢◌, ℕ, zero, suc, ◌+◌, ◌-◌, ◌*◌, ◌/◌, ◌%◌, ◌^◌, ◌<◌, ◌==◌, Bool}
use Rattle.std.specs.Prelude.{List, true, false}
use Rattle.nv_driver.specs.Layout.{pair_of}
use Rattle.nv_driver.specs.QueuePair.{QueuePair}
use Rattle.nv_driver.specs.Registers.{mps_of}
use Rattle.nv_driver.specs.declared.geometry.Geometry.{Geometry}

-- a write: the bus before it, the controller, the offset, the dword, and the bus after it
abbrev pub Write : Type 0 → Type 1
Write B = B → ℕ → ℕ → ℕ → B → Type 0

-- a read: the bus before it, the controller, the offset, the dword that was returned, and the bus
-- after it
abbrev pub Read : Type 0 → Type 1
Read B = B → ℕ → ℕ → ℕ → B → Type 0

-- a turn: the bus and the memory's bytes before it, the controller, the greatest number of entries,
-- how many were taken, and the bus and the memory's bytes after it
abbrev pub BusTurn : Type 0 → Type 1
BusTurn B = B → List ℕ → ℕ → ℕ → ℕ → B → List ℕ → Type 0

-- the write of a tail doorbell: the bus before it, the memory's bytes, and the bus after it
abbrev pub TailWrite : Type 0 → Type 1
TailWrite B = B → List ℕ → B → Type 0

-- a read that leaves the bus as it was
abbrev pub Still : {B : Type 0} → (B → ℕ → ℕ → ℕ → Type 0) → Read B
Still read old c offset x new = read old c offset x × (new ≡ old)

-- zeroing a ring: the bus, the address and the depth of the ring, and the memory before and after it
abbrev pub Zeroes : Type 0 → Type 1
Zeroes B = B → ℕ → ℕ → List ℕ → List ℕ → Type 0

-- CC that sets EN: the entry sizes of I/O queues are 64 and 16 bytes
abbrev pub enabling_cc : ℕ → ℕ
enabling_cc page_size = 0x460001 + mps_of page_size * 128

-- CSTS is read this many times, each time with another RDY than this
abbrev pub ReadsOther : {B : Type 0} → Read B → ℕ → Bool → ℕ → B → B → Type 0
ReadsOther read c ready zero old new = new ≡ old
ReadsOther read c ready (suc n) old new =
    (mid : _) × (csts : ℕ) × ReadsOther read c ready n old mid × read mid c 0x1c csts new
    × ((csts % 2 == 1) ≢ ready)

-- CC is written, and then CSTS is read until RDY is this, but at most 16 times
abbrev pub Configures : {B : Type 0} → Write B → Read B → ℕ → ℕ → Bool → B → B → Type 0
Configures wrote read c cc ready old new =
    (first : _) × (last : _) × (n : ℕ) × (csts : ℕ) × wrote old c 0x14 cc first × (n < 16)
    × ReadsOther read c ready n first last × read last c 0x1c csts new × ((csts % 2 == 1) ≡ ready)

-- an address is written, its lower dword first
abbrev pub WritesAddress : {B : Type 0} → Write B → ℕ → ℕ → ℕ → B → B → Type 0
WritesAddress wrote c offset x old new =
    (low : _) × wrote old c offset (x % 2 ^ 32) low × wrote low c (offset + 4) (x / 2 ^ 32) new

-- AQA is written, then ASQ, and then ACQ
abbrev pub SetsQueues : {B : Type 0} → Write B → ℕ → QueuePair → B → B → Type 0
SetsQueues wrote c l old new =
    (first : _) × (second : _) × wrote old c 0x24 ((l.depth - 1) * 65536 + (l.depth - 1)) first
    × WritesAddress wrote c 0x28 l.sq first second × WritesAddress wrote c 0x30 l.cq second new

-- EN is cleared, the completion ring is zeroed, the queues are set, and EN is set
abbrev pub Enables : {B : Type 0} → Write B → Read B → Zeroes B → Geometry → ℕ
    → B → List ℕ → B → List ℕ → Type 0
Enables wrote read zeroed g c old before new after =
    (off : _) × (set : _) × Configures wrote read c 0 false old off
    × zeroed off (pair_of g c).cq g.depth before after × SetsQueues wrote c (pair_of g c) off set
    × Configures wrote read c (enabling_cc g.page_size) true set new

-- so are the first n controllers, one after another, and nothing else is written
abbrev pub EnablesFirst : {B : Type 0} → Write B → Read B → Zeroes B → Geometry → ℕ
    → B → List ℕ → B → List ℕ → Type 0
EnablesFirst wrote read zeroed g zero old before new after = (new ≡ old) × (after ≡ before)
EnablesFirst wrote read zeroed g (suc n) old before new after =
    (mid : _) × (between : List ℕ) × EnablesFirst wrote read zeroed g n old before mid between
    × Enables wrote read zeroed g n mid between new after

-- so are all n controllers, over some memory
abbrev pub BringsUp : {B : Type 0} → Write B → Read B → Zeroes B → Geometry → ℕ → B → B → Type 0
BringsUp wrote read zeroed g n old new =
    (before : List ℕ) × (after : List ℕ) × EnablesFirst wrote read zeroed g n old before new after

-- a reset: EN is cleared, the completion ring is zeroed, and EN is set again; the queues stay set
abbrev pub Restarts : {B : Type 0} → Write B → Read B → Zeroes B → Geometry → ℕ
    → B → List ℕ → B → List ℕ → Type 0
Restarts wrote read zeroed g c old before new after =
    (off : _) × Configures wrote read c 0 false old off
    × zeroed off (pair_of g c).cq g.depth before after
    × Configures wrote read c (enabling_cc g.page_size) true off new
