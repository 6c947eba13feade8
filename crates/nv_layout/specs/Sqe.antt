-- A submission queue entry by its offset table.
use Rattle.std.specs.Prelude.{◌≡◌, ℕ, ◌+◌, ◌^◌, ◌<◌, List, [], ◌∷◌}
use Rattle.nv_layout.specs.Parts.{Part, laid_out, number, number_at}
use Rattle.nv_layout.specs.Bits.{at_bits, bits}
use Rattle.nv_layout.specs.declared.sqe.Sqe.{Sqe}

-- command dword 0: opcode, fused operation, data transfer by PRP or SGL, command identifier
abbrev pub dword0_of : Sqe → ℕ
dword0_of r =
    at_bits 0 8 r.opcode
    + at_bits 8 2 r.fuse
    + at_bits 14 2 r.psdt
    + at_bits 16 16 r.cid

-- the fields of a submission queue entry at their offsets
abbrev pub sqe_parts : Sqe → List Part
sqe_parts r =
    number 0 4 (dword0_of r)
    ∷ number 4 4 r.nsid
    ∷ number 16 8 r.mptr
    ∷ number 24 8 r.prp1
    ∷ number 32 8 r.prp2
    ∷ number 40 4 r.cdw10
    ∷ number 44 4 r.cdw11
    ∷ number 48 4 r.cdw12
    ∷ number 52 4 r.cdw13
    ∷ number 56 4 r.cdw14
    ∷ number 60 4 r.cdw15
    ∷ []

-- a submission queue entry as 64 bytes
unfoldable pub bytes_of_sqe : Sqe → List ℕ
bytes_of_sqe r = laid_out 64 (sqe_parts r)

-- the submission queue entry in these bytes
unfoldable pub sqe_of_bytes : List ℕ → Sqe
sqe_of_bytes bytes =
    let dword0 = number_at 0 4 bytes in
    record {
      opcode = bits 0 8 dword0;
      fuse = bits 8 2 dword0;
      psdt = bits 14 2 dword0;
      cid = bits 16 16 dword0;
      nsid = number_at 4 4 bytes;
      mptr = number_at 16 8 bytes;
      prp1 = number_at 24 8 bytes;
      prp2 = number_at 32 8 bytes;
      cdw10 = number_at 40 4 bytes;
      cdw11 = number_at 44 4 bytes;
      cdw12 = number_at 48 4 bytes;
      cdw13 = number_at 52 4 bytes;
      cdw14 = number_at 56 4 bytes;
      cdw15 = number_at 60 4 bytes;
    }

-- each field fits its bits
pub record SqeFits (r : Sqe) : Type 0 where
  pub opcode : r.opcode < 2 ^ 8
  pub fuse : r.fuse < 2 ^ 2
  pub psdt : r.psdt < 2 ^ 2
  pub cid : r.cid < 2 ^ 16
  pub nsid : r.nsid < 2 ^ 32
  pub mptr : r.mptr < 2 ^ 64
  pub prp1 : r.prp1 < 2 ^ 64
  pub prp2 : r.prp2 < 2 ^ 64
  pub cdw10 : r.cdw10 < 2 ^ 32
  pub cdw11 : r.cdw11 < 2 ^ 32
  pub cdw12 : r.cdw12 < 2 ^ 32
  pub cdw13 : r.cdw13 < 2 ^ 32
  pub cdw14 : r.cdw14 < 2 ^ 32
  pub cdw15 : r.cdw15 < 2 ^ 32

-- a submission queue entry whose fields fit is read back from its bytes
abbrev pub SqeReadsBack : Type 0
SqeReadsBack = (r : Sqe) → SqeFits r → sqe_of_bytes (bytes_of_sqe r) ≡ r
