-- What requests do on a bus, call by call.
use Rattle.std.specs.Prelude.{◌≡◌, ℕ, List, [], ◌∷◌, if◌then◌else◌, length, nat_lt}
use Rattle.nv_layout.specs.declared.cqe.Status.{Status}
use Rattle.nv_layout.specs.declared.sqe.Sqe.{Sqe}
use Rattle.nv_bus.specs.Bus.{BusValue}
use Rattle.nv_driver.specs.BringingUp.{BusTurn, EnablesFirst, Read, Restarts, TailWrite, Write, Zeroes}
use Rattle.nv_driver.specs.Driver.{after_command, after_reset, driver_with}
use Rattle.nv_driver.specs.Layout.{pages_of_entry}
use Rattle.nv_driver.specs.Sending.{Passes}
use Rattle.nv_driver.specs.Settled.{DriverValue}
use Rattle.nv_driver.specs.declared.geometry.Geometry.{Geometry}
use Rattle.nv_serve.specs.Answer.{Answer}
use Rattle.nv_serve.specs.Header.{Request, header_of}
use Rattle.nv_serve.specs.Serving.{list_entry}
use Rattle.nv_serve.specs.declared.header.Header.{Header}
use Rattle.nv_serve.specs.declared.header.Kind.{Kind}
use Rattle.nv_serve.specs.declared.header.Kind.TheVariants.{Entry, Reset, List as ListKind, Unknown}

-- a bus's value, and what is said of its calls: of a write, a read, zeroing a completion ring, the
-- write of a tail doorbell, and a turn
pub record Calls (B : Type 0) : Type 1 where
  pub meaning : B → BusValue
  pub wrote : Write B
  pub read : Read B
  pub zeroed : Zeroes B
  pub rang : TailWrite B
  pub turned : BusTurn B

-- the calls of which this is said
abbrev pub calls : {B : Type 0} → (B → BusValue) → Write B → Read B → Zeroes B → TailWrite B → BusTurn B
    → Calls B
calls meaning wrote read zeroed rang turned = record {
  meaning = meaning;
  wrote = wrote;
  read = read;
  zeroed = zeroed;
  rang = rang;
  turned = turned;
}

-- a driver passes an entry with these bytes through to controller c, and reads what came with this status
abbrev pub Sends : {B : Type 0} → Calls B → DriverValue → ℕ → Sqe → List ℕ → Status → List ℕ → B
    → DriverValue → B → Type 0
Sends k d c e bytes status payload old d' new = (d' ≡ after_command d c)
    × Passes k.wrote k.rang k.turned d c e bytes status payload (k.meaning old) old new

-- a driver resets controller c
abbrev pub Resets : {B : Type 0} → Calls B → DriverValue → ℕ → B → DriverValue → B → Type 0
Resets k d c old d' new = (d' ≡ after_reset d c) × (before : List ℕ) × (after : List ℕ)
    × Restarts k.wrote k.read k.zeroed d.geometry c old before new after

-- a driver does what a request of this kind says: its entry and no other goes to the controller, all
-- of it but its command identifier and its data pointer, and the answer has the bytes that the driver reads
abbrev pub DoesKind : {B : Type 0} → Calls B → Kind → DriverValue → Header → List ℕ → Answer → B
    → DriverValue → B → Type 0
DoesKind k Entry d h bytes a old d' new =
    Sends k d h.controller h.entry bytes a.header.status a.payload old d' new
DoesKind k Reset d h bytes a old d' new = Resets k d h.controller old d' new
DoesKind k ListKind d h bytes a old d' new =
    Sends k d h.controller list_entry [] a.header.status a.payload old d' new
DoesKind k Unknown d h bytes a old d' new = (d' ≡ d) × (new ≡ old)

-- nothing is done for a request whose controller doesn't exist
abbrev pub kind_done : DriverValue → Header → Kind
kind_done d h = if nat_lt h.controller (length d.pairs) then h.kind else Unknown

-- a driver does what a request with this header says, and answers it
abbrev pub Does : {B : Type 0} → Calls B → DriverValue → Header → List ℕ → Answer → B → DriverValue → B → Type 0
Does k d h bytes a old d' new = DoesKind k (kind_done d h) d h bytes a old d' new

-- a driver does what several requests say, answers each, and makes no other calls
abbrev pub DoesAll : {B : Type 0} → Calls B → DriverValue → List Request → List Answer → B → DriverValue → B
    → Type 0
DoesAll k d [] [] old d' new = (d' ≡ d) × (new ≡ old)
DoesAll k d [] (a ∷ answers) old d' new = ⊥
DoesAll k d (r ∷ requests) [] old d' new = ⊥
DoesAll k d (r ∷ requests) (a ∷ answers) old d' new = (next : DriverValue) × (mid : _)
    × Does k d (header_of r.header) r.payload a old next mid × DoesAll k next requests answers mid d' new

-- a driver for so many controllers is brought up, does what requests say, and answers them
abbrev pub Handles : {B : Type 0} → Calls B → Geometry → ℕ → B → B → List Request → List Answer → Type 0
Handles k g controllers old new requests answers =
    (up : _) × (last : DriverValue) × (before : List ℕ) × (after : List ℕ)
    × EnablesFirst k.wrote k.read k.zeroed g controllers old before up after
    × DoesAll k (driver_with g controllers (pages_of_entry g.page_size)) requests answers up last new
