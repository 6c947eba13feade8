use Rattle.nv_driver.proofs.Words.{limit_of, requests_in, run_of, run_on}
use Rattle.nv_driver.proofs.driver.Driver.passthrough.Given as goal

abbrev pub ghost-exchange_all : goal.ghost-exchange_all
ghost-exchange_all g a =
    let b = g.B.Bus.meaning a.bus.now in
    run_on (run_of a.pair.now.geometry a.ctrl b a.pair.now a.host.now.mem.bytes
    (requests_in (limit_of b.state a.ctrl) a.requests)) a.bus.now
