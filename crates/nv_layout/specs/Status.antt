-- The status field of a completion queue entry, a number of 15 bits.
use Rattle.std.specs.Prelude.{◌≡◌, ℕ, ◌==◌, ◌+◌, ◌^◌, ◌<◌, false, List, ◌++◌, codes}
use Rattle.std.specs.Fmt.{digits}
use Rattle.nv_layout.specs.Bits.{at_bits, bit, bits}
use Rattle.nv_layout.specs.declared.cqe.Status.{Status}

-- status code, status code type, command retry delay, more, do not retry
unfoldable pub number_of_status : Status → ℕ
number_of_status s =
    at_bits 0 8 s.sc
    + at_bits 8 3 s.sct
    + at_bits 11 2 s.crd
    + at_bits 13 1 (bit s.more)
    + at_bits 14 1 (bit s.dnr)

-- the number, such as 0x600b
abbrev pub status_text : Status → List ℕ
status_text s = codes "0x" ++ digits 16 false (number_of_status s)

-- the status in bits 14:0; bit 15 is ignored
unfoldable pub status_of_number : ℕ → Status
status_of_number x = record {
  sc = bits 0 8 x;
  sct = bits 8 3 x;
  crd = bits 11 2 x;
  more = bits 13 1 x == 1;
  dnr = bits 14 1 x == 1;
}

-- each number fits its bits
pub record StatusFits (s : Status) : Type 0 where
  pub sc : s.sc < 2 ^ 8
  pub sct : s.sct < 2 ^ 3
  pub crd : s.crd < 2 ^ 2

-- a status whose fields fit is read back from its number
abbrev pub StatusReadsBack : Type 0
StatusReadsBack = (s : Status) → StatusFits s → status_of_number (number_of_status s) ≡ s
