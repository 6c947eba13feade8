-- A namespace's Identify data by its offset table.
use Rattle.std.specs.Prelude.{◌≡◌, ℕ, ◌+◌, ◌^◌, ◌<◌, List, [], ◌∷◌, length, map}
use Rattle.std.specs.List.{AllByRecursion}
use Rattle.nv_layout.specs.Parts.{Part, laid_out, number, number_at, numbers, numbers_at}
use Rattle.nv_layout.specs.Bits.{at_bits, bits}
use Rattle.nv_layout.specs.declared.id_ns.IdNs.{IdNs}
use Rattle.nv_layout.specs.declared.id_ns.Lbaf.{Lbaf}

-- an LBA format's four bytes as a number: metadata size, LBA data size, relative performance
abbrev pub number_of_lbaf : Lbaf → ℕ
number_of_lbaf l =
    at_bits 0 16 l.ms
    + at_bits 16 8 l.lbads
    + at_bits 24 2 l.rp

-- the LBA format whose four bytes are this number
abbrev pub lbaf_of_number : ℕ → Lbaf
lbaf_of_number x = record { ms = bits 0 16 x; lbads = bits 16 8 x; rp = bits 24 2 x }

-- an LBA format as four bytes
unfoldable pub bytes_of_lbaf : Lbaf → List ℕ
bytes_of_lbaf l = laid_out 4 (number 0 4 (number_of_lbaf l) ∷ [])

-- the LBA format in these bytes
unfoldable pub lbaf_of_bytes : List ℕ → Lbaf
lbaf_of_bytes bytes = lbaf_of_number (number_at 0 4 bytes)

-- the fields of a namespace's Identify data at their offsets
abbrev pub id_ns_parts : IdNs → List Part
id_ns_parts r =
    number 0 8 r.nsze
    ∷ number 8 8 r.ncap
    ∷ number 16 8 r.nuse
    ∷ number 24 1 r.nsfeat
    ∷ number 25 1 r.nlbaf
    ∷ number 26 1 r.flbas
    ∷ number 27 1 r.mc
    ∷ number 28 1 r.dpc
    ∷ number 29 1 r.dps
    ∷ number 30 1 r.nmic
    ∷ number 48 16 r.nvmcap
    ∷ numbers 128 4 16 (map number_of_lbaf r.lbafs)
    ∷ []

-- a namespace's Identify data as 4,096 bytes
unfoldable pub bytes_of_id_ns : IdNs → List ℕ
bytes_of_id_ns r = laid_out 4096 (id_ns_parts r)

-- the namespace's Identify data in these bytes
unfoldable pub id_ns_of_bytes : List ℕ → IdNs
id_ns_of_bytes bytes = record {
  nsze = number_at 0 8 bytes;
  ncap = number_at 8 8 bytes;
  nuse = number_at 16 8 bytes;
  nsfeat = number_at 24 1 bytes;
  nlbaf = number_at 25 1 bytes;
  flbas = number_at 26 1 bytes;
  mc = number_at 27 1 bytes;
  dpc = number_at 28 1 bytes;
  dps = number_at 29 1 bytes;
  nmic = number_at 30 1 bytes;
  nvmcap = number_at 48 16 bytes;
  lbafs = map lbaf_of_number (numbers_at 128 4 16 bytes);
}

-- each field fits its bits
pub record LbafFits (l : Lbaf) : Type 0 where
  pub ms : l.ms < 2 ^ 16
  pub lbads : l.lbads < 2 ^ 8
  pub rp : l.rp < 2 ^ 2

-- each field fits its bits, and there are sixteen formats
pub record IdNsFits (r : IdNs) : Type 0 where
  pub nsze : r.nsze < 2 ^ 64
  pub ncap : r.ncap < 2 ^ 64
  pub nuse : r.nuse < 2 ^ 64
  pub nsfeat : r.nsfeat < 2 ^ 8
  pub nlbaf : r.nlbaf < 2 ^ 8
  pub flbas : r.flbas < 2 ^ 8
  pub mc : r.mc < 2 ^ 8
  pub dpc : r.dpc < 2 ^ 8
  pub dps : r.dps < 2 ^ 8
  pub nmic : r.nmic < 2 ^ 8
  pub nvmcap : r.nvmcap < 2 ^ 128
  pub formats : length r.lbafs ≡ 16
  pub each_format : AllByRecursion LbafFits r.lbafs

-- a namespace's Identify data whose fields fit is read back from its bytes
abbrev pub IdNsReadsBack : Type 0
IdNsReadsBack = (r : IdNs) → IdNsFits r → id_ns_of_bytes (bytes_of_id_ns r) ≡ r

-- an LBA format whose fields fit is read back from its bytes
abbrev pub LbafReadsBack : Type 0
LbafReadsBack = (l : Lbaf) → LbafFits l → lbaf_of_bytes (bytes_of_lbaf l) ≡ l
