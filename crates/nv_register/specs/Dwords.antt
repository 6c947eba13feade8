-- Registers with several fields, as dwords. Bits that belong to no field read 0, and are ignored
-- when they are written.
use Rattle.std.specs.Prelude.{ℕ, ◌==◌, ◌+◌}
use Rattle.nv_layout.specs.Bits.{at_bits, bit, bits}
use Rattle.nv_register.specs.declared.register.AdminQueueAttributes.{AdminQueueAttributes}
use Rattle.nv_register.specs.declared.register.ControllerConfiguration.{ControllerConfiguration}
use Rattle.nv_register.specs.declared.register.ControllerStatus.{ControllerStatus}

-- EN 0, MPS 10:7, IOSQES 19:16, IOCQES 23:20
abbrev pub cc_dword : ControllerConfiguration → ℕ
cc_dword r = at_bits 0 1 (bit r.en) + at_bits 7 4 r.sizes.mps + at_bits 16 4 r.sizes.iosqes
    + at_bits 20 4 r.sizes.iocqes

-- the fields of CC in a dword
abbrev pub cc_of_dword : ℕ → ControllerConfiguration
cc_of_dword x = record {
  en = bits 0 1 x == 1;
  sizes = record { mps = bits 7 4 x; iosqes = bits 16 4 x; iocqes = bits 20 4 x };
}

-- RDY 0, CFS 1
abbrev pub csts_dword : ControllerStatus → ℕ
csts_dword r = at_bits 0 1 (bit r.rdy) + at_bits 1 1 (bit r.cfs)

-- ASQS 11:0, ACQS 27:16
abbrev pub aqa_dword : AdminQueueAttributes → ℕ
aqa_dword r = at_bits 0 12 r.asqs + at_bits 16 12 r.acqs

-- the fields of AQA in a dword
abbrev pub aqa_of_dword : ℕ → AdminQueueAttributes
aqa_of_dword x = record { asqs = bits 0 12 x; acqs = bits 16 12 x }
