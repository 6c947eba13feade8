-- The registers of a driver's controllers: what no public contract reaches.
use Rattle.std.specs.Prelude.{◌-◌}
use Rattle.nv_register.specs.declared.register_bank.RegisterBank.{RegisterBank}
use Rattle.nv_driver.specs.QueuePair.{QueuePair}

-- the queues of a queue pair are set
abbrev pub with_queues : RegisterBank → QueuePair → RegisterBank
with_queues p l =
    record p { aqa = record { asqs = l.depth - 1; acqs = l.depth - 1 }; asq = l.sq; acq = l.cq }
