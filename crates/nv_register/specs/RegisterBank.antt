-- The registers of one controller, and the effect of reading and writing a dword.
use Rattle.std.specs.Prelude.{ℕ, ◌+◌, ◌*◌, ◌/◌, ◌%◌, ◌^◌, ◌==◌, ◌&&◌, Bool, false}
use Rattle.std.specs.Prelude.{nat_le, nat_lt, not, if◌then◌else◌}
use Rattle.std.specs.Option.{option_map_or}
use Rattle.nv_queue.specs.Numbers.{ahead, distance}
use Rattle.nv_queue.specs.Rings.{FetchNumbers, PostNumbers, rung_to, told_to}
use Rattle.nv_register.specs.Dwords.{aqa_dword, aqa_of_dword, cc_dword, cc_of_dword, csts_dword}
use Rattle.nv_register.specs.PageSize.{page_size_of}
use Rattle.nv_register.specs.Readiness.{is_enabled, is_fatal, is_ready, with_rings}
use Rattle.nv_register.specs.Register.{register_at}
use Rattle.nv_register.specs.declared.register.ControllerConfiguration.{ControllerConfiguration}
use Rattle.nv_register.specs.declared.register.Sizes.{Sizes}
use Rattle.nv_register.specs.declared.register_bank.RegisterBank.{RegisterBank}
use Rattle.nv_register.specs.declared.readiness.Readiness.TheVariants.{Off, Failed, Ready}
use Rattle.nv_register.specs.declared.rings.Rings.{Rings}
use Rattle.nv_register.specs.declared.register.Register.{Register}
use Rattle.nv_register.specs.declared.register.Register.TheVariants.{CapLow, CapHigh, Vs, Cc, Csts}
use Rattle.nv_register.specs.declared.register.Register.TheVariants.{Aqa, AsqLow, AsqHigh, AcqLow}
use Rattle.nv_register.specs.declared.register.Register.TheVariants.{AcqHigh, TailDoorbell}
use Rattle.nv_register.specs.declared.register.Register.TheVariants.{HeadDoorbell}

-- the registers after power on
abbrev pub new_bank : RegisterBank
new_bank = record {
  sizes = record { mps = 0; iosqes = 0; iocqes = 0 };
  readiness = Off;
  aqa = record { asqs = 0; acqs = 0 };
  asq = 0;
  acq = 0;
}

-- ---- reads

-- CC, in which EN says whether the controller is enabled
abbrev pub cc_of : RegisterBank → ControllerConfiguration
cc_of p = record { en = is_enabled p.readiness; sizes = p.sizes }

-- the value of a register; doorbells read 0
abbrev pub value_of : RegisterBank → Register → ℕ
value_of p CapLow = 0x01010fff
value_of p CapHigh = 0x00400020
value_of p Vs = 0x00010400
value_of p Cc = cc_dword (cc_of p)
value_of p Csts = csts_dword (record { rdy = is_ready p.readiness; cfs = is_fatal p.readiness })
value_of p Aqa = aqa_dword p.aqa
value_of p AsqLow = p.asq % 2 ^ 32
value_of p AsqHigh = p.asq / 2 ^ 32
value_of p AcqLow = p.acq % 2 ^ 32
value_of p AcqHigh = p.acq / 2 ^ 32
value_of p TailDoorbell = 0
value_of p HeadDoorbell = 0

-- the dword at an offset, or 0 if no register begins there
abbrev pub value_at : RegisterBank → ℕ → ℕ
value_at p offset = option_map_or (value_of p) (register_at offset) 0

-- ---- enabling

-- a queue with less_one + 1 entries
abbrev pub is_queue : Sizes → ℕ → ℕ → Bool
is_queue sizes base less_one =
    base % page_size_of sizes == 0 && (nat_le 1 less_one && nat_le less_one 4095)

-- the values with which a controller becomes ready: a page has at most 65,536 bytes, and both
-- queues begin at a page and have 2 to 4,096 entries
abbrev pub can_start : RegisterBank → Bool
can_start p =
    nat_le p.sizes.mps 4
    && (is_queue p.sizes p.asq p.aqa.asqs && is_queue p.sizes p.acq p.aqa.acqs)

-- new rings, whose numbers begin at 0
abbrev pub new_rings : RegisterBank → Rings
new_rings p = record {
  page_size = page_size_of p.sizes;
  submission = record { base = p.asq; depth = p.aqa.asqs + 1; fetched = 0; rung = 0 };
  completion = record { base = p.acq; depth = p.aqa.acqs + 1; posted = 0; told = 0 };
}

-- EN is set: the controller is ready at once, or has a fatal status
abbrev pub start : RegisterBank → RegisterBank
start p = record p { readiness = if can_start p then Ready (new_rings p) false else Failed }

-- EN is cleared, which clears RDY and CFS
abbrev pub stop : RegisterBank → RegisterBank
stop p = record p { readiness = Off }

-- while EN is 1, a write to CC changes only EN
abbrev pub with_cc : RegisterBank → ControllerConfiguration → RegisterBank
with_cc p cc =
    if is_enabled p.readiness then (if cc.en then p else stop p)
    else (if cc.en then start (record p { sizes = cc.sizes }) else record p { sizes = cc.sizes })

-- ---- doorbells: both are ignored if the controller is not ready

-- a tail that names no slot is ignored
abbrev pub rung_by : FetchNumbers → ℕ → FetchNumbers
rung_by ring tail = if nat_lt tail ring.depth then rung_to ring tail else ring

-- a head is ignored unless freeing posted slots leads to it
abbrev pub told_by : PostNumbers → ℕ → PostNumbers
told_by ring head =
    if nat_lt head ring.depth
    && nat_le (ahead ring.depth ring.told head) (distance ring.depth ring.posted ring.told)
    then told_to ring head else ring

-- the rings after a write to the tail doorbell
abbrev pub with_tail : ℕ → Rings → Rings
with_tail tail rings = record rings { submission = rung_by rings.submission tail }

-- the rings after a write to the head doorbell
abbrev pub with_head : ℕ → Rings → Rings
with_head head rings = record rings { completion = told_by rings.completion head }

-- ---- writes

-- an address with another low dword, and an address with another high dword
abbrev pub with_low : ℕ → ℕ → ℕ
with_low address dword = address / 2 ^ 32 * 2 ^ 32 + dword

-- an address with another high dword
abbrev pub with_high : ℕ → ℕ → ℕ
with_high address dword = dword * 2 ^ 32 + address % 2 ^ 32

-- the queue registers ignore writes while EN is 1
abbrev pub unless_enabled : RegisterBank → RegisterBank → RegisterBank
unless_enabled p other = if is_enabled p.readiness then p else other

-- a write of a register
abbrev pub with_register : RegisterBank → Register → ℕ → RegisterBank
with_register p CapLow x = p
with_register p CapHigh x = p
with_register p Vs x = p
with_register p Cc x = with_cc p (cc_of_dword x)
with_register p Csts x = p
with_register p Aqa x = unless_enabled p (record p { aqa = aqa_of_dword x })
with_register p AsqLow x = unless_enabled p (record p { asq = with_low p.asq x })
with_register p AsqHigh x = unless_enabled p (record p { asq = with_high p.asq x })
with_register p AcqLow x = unless_enabled p (record p { acq = with_low p.acq x })
with_register p AcqHigh x = unless_enabled p (record p { acq = with_high p.acq x })
with_register p TailDoorbell x = record p { readiness = with_rings (with_tail x) p.readiness }
with_register p HeadDoorbell x = record p { readiness = with_rings (with_head x) p.readiness }

-- a write of the dword at an offset, which is ignored if no register begins there
abbrev pub with_register_at : RegisterBank → ℕ → ℕ → RegisterBank
with_register_at p offset x = option_map_or (λ r. with_register p r x) (register_at offset) p

-- ---- a write that clears an EN that is 1

-- whether writing this value to this register clears an EN that was 1
abbrev pub stops_by : RegisterBank → Register → ℕ → Bool
stops_by p Cc x = is_enabled p.readiness && not (cc_of_dword x).en
stops_by p register x = false

-- whether writing this value at this offset clears an EN that was 1
abbrev pub stops_at : RegisterBank → ℕ → ℕ → Bool
stops_at p offset x = option_map_or (λ r. stops_by p r x) (register_at offset) false
