-- A completion queue entry by its offset table.
use Rattle.std.specs.Prelude.{◌≡◌, ℕ, ◌==◌, ◌+◌, ◌^◌, ◌<◌, List, [], ◌∷◌}
use Rattle.nv_layout.specs.Parts.{Part, laid_out, number, number_at}
use Rattle.nv_layout.specs.Bits.{at_bits, bit, bits}
use Rattle.nv_layout.specs.Status.{StatusFits, number_of_status, status_of_number}
use Rattle.nv_layout.specs.declared.cqe.Cqe.{Cqe}

-- dword 3: command identifier, phase tag, status field
abbrev pub dword3_of : Cqe → ℕ
dword3_of r =
    at_bits 0 16 r.cid
    + at_bits 16 1 (bit r.phase)
    + at_bits 17 15 (number_of_status r.status)

-- the fields of a completion queue entry at their offsets
abbrev pub cqe_parts : Cqe → List Part
cqe_parts r =
    number 0 4 r.command_specific
    ∷ number 8 2 r.sq_head
    ∷ number 10 2 r.sq_identifier
    ∷ number 12 4 (dword3_of r)
    ∷ []

-- a completion queue entry as 16 bytes
unfoldable pub bytes_of_cqe : Cqe → List ℕ
bytes_of_cqe r = laid_out 16 (cqe_parts r)

-- the completion queue entry in these bytes
unfoldable pub cqe_of_bytes : List ℕ → Cqe
cqe_of_bytes bytes =
    let dword3 = number_at 12 4 bytes in
    record {
      command_specific = number_at 0 4 bytes;
      sq_head = number_at 8 2 bytes;
      sq_identifier = number_at 10 2 bytes;
      cid = bits 0 16 dword3;
      phase = bits 16 1 dword3 == 1;
      status = status_of_number (bits 17 15 dword3);
    }

-- each field fits its bits
pub record CqeFits (r : Cqe) : Type 0 where
  pub command_specific : r.command_specific < 2 ^ 32
  pub sq_head : r.sq_head < 2 ^ 16
  pub sq_identifier : r.sq_identifier < 2 ^ 16
  pub cid : r.cid < 2 ^ 16
  pub status : StatusFits r.status

-- a completion queue entry whose fields fit is read back from its bytes
abbrev pub CqeReadsBack : Type 0
CqeReadsBack = (r : Cqe) → CqeFits r → cqe_of_bytes (bytes_of_cqe r) ≡ r
