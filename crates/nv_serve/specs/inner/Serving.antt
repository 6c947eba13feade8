-- The effect of requests, one after another: what no public contract
-- reaches.
use Rattle.nv_bus.specs.Bus.{BusValue}
use Rattle.nv_driver.specs.inner.Linked.{next_cids_of}
use Rattle.nv_driver.specs.Settled.{DriverValue}
use Rattle.nv_serve.specs.Serving.{Point, point}

-- the state of a bus and its driver
abbrev pub point_of : BusValue → DriverValue → Point
point_of b d = point b.state (next_cids_of d)
