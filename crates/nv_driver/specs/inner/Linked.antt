-- A bus and its driver between two calls: what no public contract reaches.
use Rattle.std.specs.Prelude.{ℕ, List, map}
use Rattle.nv_driver.specs.QueuePair.{QueuePair}
use Rattle.nv_driver.specs.Settled.{DriverValue}

-- the next command identifier of each controller
abbrev pub next_cids_of : DriverValue → List ℕ
next_cids_of d = map (λ (l : QueuePair). l.next_cid) d.pairs
