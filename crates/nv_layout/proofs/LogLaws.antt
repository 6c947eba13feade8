-- The records of logs are read back, and how many bytes they have.
use Rattle.std.proofs.lemmas.Grind.{common_steps}
use Rattle.std.proofs.Common.{◌≡◌, ◌∙◌, ℕ, ◌+◌, ◌-◌, ◌*◌, ◌/◌, ◌%◌, ◌≤◌, ◌^◌, ◌<◌, ap, refl, sym, zero, suc}
use Rattle.std.proofs.Common.{rules, Bool, arith, List, [], ◌∷◌, ◌++◌, length, get_or, replicate, take}
use Rattle.std.proofs.lemmas.List.{get_or-replicate}
use Rattle.nv_layout.specs.ErrorEntryBytes.{ErrorEntryReadsBack, bytes_of_entries}
use Rattle.nv_layout.specs.ErrorEntryBytes.{bytes_of_error_entry, error_entry_of_bytes}
use Rattle.nv_layout.specs.ErrorEntryBytes.{error_entry_parts}
use Rattle.nv_layout.specs.ErrorEntry.{ErrorEntryFits, no_entry}
use Rattle.nv_layout.specs.Bits.{at_bits, bit, bits}
use Rattle.nv_layout.specs.Parts.{part, placed, zeros}
use Rattle.nv_layout.proofs.PartLaws.{get_or-past, same_parts}
use Rattle.nv_layout.proofs.RecordLaws.{bit_below, flag_back, number_of_status_below, status_back}
use Rattle.nv_layout.specs.Smart.{SmartReadsBack, bytes_of_smart, smart_of_bytes, smart_parts}
use Rattle.nv_layout.specs.Status.{number_of_status}
use Rattle.nv_layout.proofs.TableLaws.{length-laid_out, table_back}
use Rattle.nv_layout.specs.declared.error_entry.ErrorEntry.{ErrorEntry}
use Rattle.nv_layout.specs.declared.smart.Smart.{Smart}

-- ---- health

-- a health log with eight sensors has 512 bytes
pub length-bytes_of_smart : (r : Smart) → length r.sensors ≡ 8 → length (bytes_of_smart r) ≡ 512
unfolding bytes_of_smart
length-bytes_of_smart r sensors = length-laid_out 512 (smart_parts r) refl assumption

-- a health log whose fields fit is read back from its bytes
pub smart_back : SmartReadsBack
unfolding bytes_of_smart smart_of_bytes
smart_back r fits = grind (arith, common_steps, table_back 512 (smart_parts r) refl assumption)

-- ---- entries of the error log

-- the fields of the entry that holds no error fit
pub no_entry_fits : ErrorEntryFits no_entry
no_entry_fits = search (rules, arith)

-- an entry that fits its record also fits with any phase tag
pub fits_with_phase : (e : ErrorEntry) (phase : Bool) → ErrorEntryFits e → ErrorEntryFits (record e { phase = phase })
fits_with_phase e phase fits = assumption

-- an entry of the error log has 64 bytes
pub length-bytes_of_error_entry : (r : ErrorEntry) → length (bytes_of_error_entry r) ≡ 64
unfolding bytes_of_error_entry
length-bytes_of_error_entry r = length-laid_out 64 (error_entry_parts r) refl assumption

-- a number made of a phase tag and a status of 15 bits has two bytes, and its bits are these two
word_bits : (p s : ℕ) → p < 2 → s < 2 ^ 15
    → let n = at_bits 0 1 p + at_bits 1 15 s in (n < 256 ^ 2) × (bits 0 1 n ≡ p) × (bits 1 15 n ≡ s)
word_bits p s hp hs = (omega arith, omega arith, omega arith)

-- an entry of the error log whose fields fit is read back from its bytes
pub error_entry_back : ErrorEntryReadsBack
unfolding bytes_of_error_entry error_entry_of_bytes
error_entry_back r fits =
    let (small, phase, status) =
    word_bits (bit r.phase) (number_of_status r.status) (bit_below r.phase)
    (number_of_status_below r.status) in
    let fields = table_back 64 (error_entry_parts r) refl assumption in
    grind (arith, fields, phase, flag_back r.phase, status, status_back r.status fits.status)

-- the bytes of several entries are 64 for each entry
pub length-entries : (es : List ErrorEntry) → length (bytes_of_entries es) ≡ 64 * length es
length-entries [] = refl
length-entries (e ∷ es) = grind (arith, common_steps, length-bytes_of_error_entry, length-entries es)

-- the bytes of the entry that holds no error are 64 zeros
bytes_of_no_entry : bytes_of_error_entry no_entry ≡ zeros 64
unfolding bytes_of_error_entry number_of_status zeros placed
bytes_of_no_entry = refl

-- each of 64 zeros is 0
no_byte : (k : ℕ) → k < 64 → get_or (zeros 64) k 0 ≡ 0
unfolding zeros
no_byte k h = get_or-replicate 64 k 0 0 h

-- byte 64 * index + k of all entries is byte k of entry number `index`, or of no_entry past the last entry
byte_of_entry : (es : List ErrorEntry) (index k : ℕ) → k < 64
    → get_or (bytes_of_entries es) (64 * index + k) 0
    ≡ get_or (bytes_of_error_entry (get_or es index no_entry)) k 0
byte_of_entry [] index k h = sym (ap (λ b. get_or b k 0) bytes_of_no_entry ∙ no_byte k h)
byte_of_entry (e ∷ es) zero k h = grind (arith, common_steps, length-bytes_of_error_entry)
byte_of_entry (e ∷ es) (suc index) k h =
    grind (arith, common_steps, length-bytes_of_error_entry, byte_of_entry es index k h)

-- a part of the entries that lies in one entry is that part of the entry
pub part_of_entry : (es : List ErrorEntry) (index skip n : ℕ) → skip + n ≤ 64
    → part (bytes_of_entries es) (64 * index + skip) n
    ≡ part (bytes_of_error_entry (get_or es index no_entry)) skip n
part_of_entry es index skip n h = search (rules, same_parts, byte_of_entry)

-- ---- entries without an error after those that a log has

-- byte i of all entries is byte i % 64 of entry number i / 64, or of no_entry past the last entry
byte_at : (es : List ErrorEntry) (i : ℕ) → get_or (bytes_of_entries es) i 0
    ≡ get_or (bytes_of_error_entry (get_or es (i / 64) no_entry)) (i % 64) 0
byte_at es i = search (rules, byte_of_entry)

-- entries without an error after the others change no part of the bytes
pub part_past_blanks : (es : List ErrorEntry) (m from n : ℕ)
    → part (bytes_of_entries (es ++ replicate m no_entry)) from n ≡ part (bytes_of_entries es) from n
part_past_blanks es m from n = search (rules, same_parts, byte_at, get_or-past)

-- the newest and the older entries come first, and each entry after them is one without an error
pub present_first : (newest older : List ErrorEntry) (m : ℕ)
    → let n = length newest + length older in
    let es = newest ++ older ++ replicate m no_entry in
    ◌≡◌ {A = List ErrorEntry} es (take n es ++ replicate (length es - n) no_entry)
present_first newest older m = grind (arith, common_steps)
