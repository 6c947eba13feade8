-- One controller's place in the driver's memory, and its registers as the driver leaves them.
use Rattle.std.specs.Prelude.{ℕ, ◌+◌, ◌-◌, ◌*◌, ◌<◌, ◌≤◌, false}
use Rattle.nv_queue.specs.Numbers.{IsDepth}
use Rattle.nv_register.specs.declared.register_bank.RegisterBank.{RegisterBank}
use Rattle.nv_register.specs.declared.readiness.Readiness.TheVariants.{Ready}
use Rattle.nv_register.specs.declared.rings.Rings.{Rings}
use Rattle.nv_model.specs.Ranges.{cid_count}
use Rattle.nv_driver.specs.declared.geometry.Geometry.{Geometry}

-- the addresses of its rings, the number of its next command, as the rings keep it, with its command
-- identifier, its geometry, and its pages
pub record QueuePair : Type 0 where
  pub sq : ℕ
  pub cq : ℕ
  pub depth : ℕ
  pub number : ℕ
  pub next_cid : ℕ
  pub geometry : Geometry
  pub first_page : ℕ
  pub page_count : ℕ

-- the queue pair after a reset: its numbers begin at 0 again, and the command identifiers continue
abbrev pub renewed_pair : QueuePair → QueuePair
renewed_pair l = record l { number = 0 }

-- rings of this queue pair whose numbers are all those of the next command
abbrev pub idle_rings : ℕ → QueuePair → Rings
idle_rings page_size l = record {
  page_size = page_size;
  submission = record { base = l.sq; depth = l.depth; fetched = l.number; rung = l.number };
  completion = record { base = l.cq; depth = l.depth; posted = l.number; told = l.number };
}

-- the registers of a controller that was enabled for this queue pair and has no command outstanding
abbrev pub idle_bank : ℕ → ℕ → QueuePair → RegisterBank
idle_bank mps page_size l = record {
  sizes = record { mps = mps; iosqes = 6; iocqes = 4 };
  readiness = Ready (idle_rings page_size l) false;
  aqa = record { asqs = l.depth - 1; acqs = l.depth - 1 };
  asq = l.sq;
  acq = l.cq;
}

-- the submission ring, the completion ring and the pages come one after another in a memory of this
-- size
pub record IsLaid (page_size size : ℕ) (l : QueuePair) : Type 0 where
  pub deep : IsDepth l.depth
  pub number : l.number < 2 * l.depth
  pub next_cid : l.next_cid < cid_count
  pub rings : l.sq + 64 * l.depth ≤ l.cq
  pub pages : l.cq + 16 * l.depth ≤ l.first_page * page_size
  pub inside : (l.first_page + l.page_count) * page_size ≤ size
