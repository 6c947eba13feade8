-- The Identify data of a controller.
use Rattle.std.specs.Prelude.{ℕ, nat_le, List, ◌++◌, length, replicate, take, if◌then◌else◌}
use Rattle.std.specs.Option.{option_map_or}
use Rattle.nv_layout.specs.IdCtrl.{id_ctrl_of_bytes}
use Rattle.nv_layout.specs.declared.id_ctrl.IdCtrl.{IdCtrl}
use Rattle.nv_command.specs.declared.reply.Reply.{Reply}
use Rattle.nv_command.specs.declared.reply.Reply.TheVariants as reply
use Rattle.nv_model.specs.WellFormed.{unallocated}
use Rattle.nv_model.specs.State.{Controller, State, controller_at}

-- a text with padding after it, `size` bytes in all
abbrev pub padded : ℕ → ℕ → List ℕ → List ℕ
padded size padding text = take size (text ++ replicate size padding)

-- CMIC bit 1: the subsystem has two controllers or more
abbrev pub cmic_of : State → ℕ
cmic_of s = if nat_le 2 (length s.controllers) then 0x02 else 0

-- FNA bit 2: a format can erase by destroying a key
abbrev pub fna_of : Controller → ℕ
fna_of x = if x.identity.crypto_erase then 0x04 else 0

-- VER is 1.4; OACS has Format NVM and Namespace Management; FRMW has one slot; LPA has offsets into
-- logs; entries have 64 and 16 bytes; ONCS has saved features
abbrev pub id_ctrl_of : State → Controller → IdCtrl
id_ctrl_of s x = record {
  vid = x.identity.numbers.vid;
  ssvid = x.identity.numbers.ssvid;
  sn = padded 20 0x20 x.identity.sn;
  mn = padded 40 0x20 x.identity.mn;
  fr = padded 8 0x20 x.identity.fr;
  rab = x.identity.numbers.rab;
  ieee = x.identity.numbers.ieee;
  cmic = cmic_of s;
  mdts = x.identity.numbers.mdts;
  cntlid = x.identity.cntlid;
  ver = 0x00010400;
  oacs = 0x0a;
  frmw = 0x02;
  lpa = 0x04;
  elpe = x.identity.numbers.elpe;
  npss = 0;
  wctemp = x.identity.numbers.wctemp;
  cctemp = x.identity.numbers.cctemp;
  tnvmcap = s.tnvmcap;
  unvmcap = unallocated s;
  sqes = 0x66;
  cqes = 0x44;
  nn = s.nn;
  oncs = 0x10;
  fna = fna_of x;
  vwc = x.identity.numbers.vwc;
  subnqn = padded 256 0 s.subnqn;
}

-- a controller that doesn't exist: zeros
abbrev pub no_controller : IdCtrl
no_controller = id_ctrl_of_bytes (replicate 4096 0)

-- the data of controller c, or zeros if it doesn't exist
abbrev pub controller_reply : State → ℕ → Reply
controller_reply s c =
    reply.Controller (option_map_or (id_ctrl_of s) (controller_at s c) no_controller)
