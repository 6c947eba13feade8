-- Format NVM: opcode 80h. CDW10 holds the format in bits 3:0, the metadata settings in bit 4, the
-- protection information in bits 7:5, its location in bit 8, and the secure erase settings in bits
-- 11:9.
use Rattle.std.specs.Prelude.{◌^◌, ◌<◌, ◌==◌}
use Rattle.nv_layout.specs.Bits.{bits}
use Rattle.nv_layout.specs.declared.sqe.Sqe.{Sqe}
use Rattle.nv_command.specs.declared.command.Command.{Command}
use Rattle.nv_command.specs.declared.command.Command.TheVariants.{Format}
use Rattle.nv_command.specs.declared.format.NewFormat.{NewFormat}

-- the parameters of a Format NVM fit their bits
pub record FormatFits (f : NewFormat) : Type 0 where
  pub nsid : f.nsid < 2 ^ 32
  pub lbaf : f.lbaf < 2 ^ 4
  pub pi : f.pi < 2 ^ 3
  pub ses : f.ses < 2 ^ 3

-- every entry is a valid format; its other bits are ignored
abbrev pub format_command : Sqe → Command
format_command e = Format (record {
  nsid = e.nsid;
  lbaf = bits 0 4 e.cdw10;
  mset = bits 4 1 e.cdw10 == 1;
  pi = bits 5 3 e.cdw10;
  pil = bits 8 1 e.cdw10 == 1;
  ses = bits 9 3 e.cdw10;
})
