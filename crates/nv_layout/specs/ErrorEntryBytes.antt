-- An entry of the error log by its offset table ("Error Information (Log Identifier 01h)").
use Rattle.std.specs.Prelude.{◌≡◌, ℕ, false, ◌==◌, ◌+◌, List, [], ◌∷◌}
use Rattle.std.specs.List.{flat_map}
use Rattle.nv_layout.specs.Parts.{Part, laid_out, number, number_at}
use Rattle.nv_layout.specs.Bits.{at_bits, bit, bits}
use Rattle.nv_layout.specs.Status.{number_of_status, status_of_number}
use Rattle.nv_layout.specs.declared.error_entry.ErrorEntry.{ErrorEntry}
use Rattle.nv_layout.specs.ErrorEntry.{ErrorEntryFits}

-- the phase tag in bit 0, and the status field above it
abbrev pub status_word : ErrorEntry → ℕ
status_word r = at_bits 0 1 (bit r.phase) + at_bits 1 15 (number_of_status r.status)

-- the fields of an error log entry at their offsets
abbrev pub error_entry_parts : ErrorEntry → List Part
error_entry_parts r =
    number 0 8 r.count
    ∷ number 8 2 r.sqid
    ∷ number 10 2 r.cid
    ∷ number 12 2 (status_word r)
    ∷ number 14 2 r.location
    ∷ number 16 8 r.lba
    ∷ number 24 4 r.nsid
    ∷ number 28 1 r.vendor
    ∷ number 32 8 r.specific
    ∷ []

-- an error log entry as 64 bytes
unfoldable pub bytes_of_error_entry : ErrorEntry → List ℕ
bytes_of_error_entry r = laid_out 64 (error_entry_parts r)

-- the error log entry in these bytes
unfoldable pub error_entry_of_bytes : List ℕ → ErrorEntry
error_entry_of_bytes bytes =
    let word = number_at 12 2 bytes in
    record {
      count = number_at 0 8 bytes;
      sqid = number_at 8 2 bytes;
      cid = number_at 10 2 bytes;
      status = status_of_number (bits 1 15 word);
      phase = bits 0 1 word == 1;
      location = number_at 14 2 bytes;
      lba = number_at 16 8 bytes;
      nsid = number_at 24 4 bytes;
      vendor = number_at 28 1 bytes;
      specific = number_at 32 8 bytes;
    }

-- an error log entry whose fields fit is read back from its bytes
abbrev pub ErrorEntryReadsBack : Type 0
ErrorEntryReadsBack =
    (r : ErrorEntry) → ErrorEntryFits r → error_entry_of_bytes (bytes_of_error_entry r) ≡ r

-- one entry after the other
abbrev pub bytes_of_entries : List ErrorEntry → List ℕ
bytes_of_entries es = flat_map bytes_of_error_entry es

-- entries that differ only in the phase tag are considered equal
abbrev pub without_phase : ErrorEntry → ErrorEntry
without_phase e = record e { phase = false }
