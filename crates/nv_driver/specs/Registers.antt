-- The registers of a driver's controllers.
use Rattle.std.specs.Prelude.{ℕ, ◌==◌, List, map, if◌then◌else◌}
use Rattle.nv_register.specs.declared.register_bank.RegisterBank.{RegisterBank}
use Rattle.nv_driver.specs.QueuePair.{QueuePair, idle_bank}
use Rattle.nv_driver.specs.Settled.{DriverValue}

-- MPS of a page size: a page has two to this power times 4,096 bytes
abbrev pub mps_of : ℕ → ℕ
mps_of page_size =
    if page_size == 4096 then 0 else if page_size == 8192 then 1
    else if page_size == 16384 then 2 else if page_size == 32768 then 3 else 4

-- the registers of controllers with these queue pairs when no command is outstanding
abbrev pub idle_banks : ℕ → List QueuePair → List RegisterBank
idle_banks page_size pairs = map (idle_bank (mps_of page_size) page_size) pairs

-- the registers of each controller when no command is outstanding
abbrev pub banks_of : DriverValue → List RegisterBank
banks_of d = idle_banks d.geometry.page_size d.pairs
