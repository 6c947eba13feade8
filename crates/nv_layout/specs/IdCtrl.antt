-- A controller's Identify data by its offset table.
use Rattle.std.specs.Prelude.{◌≡◌, ℕ, ◌^◌, ◌<◌, List, [], ◌∷◌, length}
use Rattle.nv_layout.specs.Parts.{Part, laid_out, number, number_at, text, text_at}
use Rattle.nv_layout.specs.Bits.{at_bits}
use Rattle.nv_layout.specs.declared.id_ctrl.IdCtrl.{IdCtrl}

-- the fields of a controller's Identify data at their offsets
abbrev pub id_ctrl_parts : IdCtrl → List Part
id_ctrl_parts r =
    number 0 2 r.vid
    ∷ number 2 2 r.ssvid
    ∷ text 4 20 r.sn
    ∷ text 24 40 r.mn
    ∷ text 64 8 r.fr
    ∷ number 72 1 r.rab
    ∷ number 73 3 (at_bits 0 24 r.ieee)
    ∷ number 76 1 r.cmic
    ∷ number 77 1 r.mdts
    ∷ number 78 2 r.cntlid
    ∷ number 80 4 r.ver
    ∷ number 256 2 r.oacs
    ∷ number 260 1 r.frmw
    ∷ number 261 1 r.lpa
    ∷ number 262 1 r.elpe
    ∷ number 263 1 r.npss
    ∷ number 266 2 r.wctemp
    ∷ number 268 2 r.cctemp
    ∷ number 280 16 r.tnvmcap
    ∷ number 296 16 r.unvmcap
    ∷ number 512 1 r.sqes
    ∷ number 513 1 r.cqes
    ∷ number 516 4 r.nn
    ∷ number 520 2 r.oncs
    ∷ number 524 1 r.fna
    ∷ number 525 1 r.vwc
    ∷ text 768 256 r.subnqn
    ∷ []

-- a controller's Identify data as 4,096 bytes
unfoldable pub bytes_of_id_ctrl : IdCtrl → List ℕ
bytes_of_id_ctrl r = laid_out 4096 (id_ctrl_parts r)

-- the controller's Identify data in these bytes
unfoldable pub id_ctrl_of_bytes : List ℕ → IdCtrl
id_ctrl_of_bytes bytes = record {
  vid = number_at 0 2 bytes;
  ssvid = number_at 2 2 bytes;
  sn = text_at 4 20 bytes;
  mn = text_at 24 40 bytes;
  fr = text_at 64 8 bytes;
  rab = number_at 72 1 bytes;
  ieee = number_at 73 3 bytes;
  cmic = number_at 76 1 bytes;
  mdts = number_at 77 1 bytes;
  cntlid = number_at 78 2 bytes;
  ver = number_at 80 4 bytes;
  oacs = number_at 256 2 bytes;
  frmw = number_at 260 1 bytes;
  lpa = number_at 261 1 bytes;
  elpe = number_at 262 1 bytes;
  npss = number_at 263 1 bytes;
  wctemp = number_at 266 2 bytes;
  cctemp = number_at 268 2 bytes;
  tnvmcap = number_at 280 16 bytes;
  unvmcap = number_at 296 16 bytes;
  sqes = number_at 512 1 bytes;
  cqes = number_at 513 1 bytes;
  nn = number_at 516 4 bytes;
  oncs = number_at 520 2 bytes;
  fna = number_at 524 1 bytes;
  vwc = number_at 525 1 bytes;
  subnqn = text_at 768 256 bytes;
}

-- each field fits its bits
pub record IdCtrlFits (r : IdCtrl) : Type 0 where
  pub vid : r.vid < 2 ^ 16
  pub ssvid : r.ssvid < 2 ^ 16
  pub sn : length r.sn ≡ 20
  pub mn : length r.mn ≡ 40
  pub fr : length r.fr ≡ 8
  pub rab : r.rab < 2 ^ 8
  pub ieee : r.ieee < 2 ^ 24
  pub cmic : r.cmic < 2 ^ 8
  pub mdts : r.mdts < 2 ^ 8
  pub cntlid : r.cntlid < 2 ^ 16
  pub ver : r.ver < 2 ^ 32
  pub oacs : r.oacs < 2 ^ 16
  pub frmw : r.frmw < 2 ^ 8
  pub lpa : r.lpa < 2 ^ 8
  pub elpe : r.elpe < 2 ^ 8
  pub npss : r.npss < 2 ^ 8
  pub wctemp : r.wctemp < 2 ^ 16
  pub cctemp : r.cctemp < 2 ^ 16
  pub tnvmcap : r.tnvmcap < 2 ^ 128
  pub unvmcap : r.unvmcap < 2 ^ 128
  pub sqes : r.sqes < 2 ^ 8
  pub cqes : r.cqes < 2 ^ 8
  pub nn : r.nn < 2 ^ 32
  pub oncs : r.oncs < 2 ^ 16
  pub fna : r.fna < 2 ^ 8
  pub vwc : r.vwc < 2 ^ 8
  pub subnqn : length r.subnqn ≡ 256

-- a controller's Identify data whose fields fit is read back from its bytes
abbrev pub IdCtrlReadsBack : Type 0
IdCtrlReadsBack = (r : IdCtrl) → IdCtrlFits r → id_ctrl_of_bytes (bytes_of_id_ctrl r) ≡ r
