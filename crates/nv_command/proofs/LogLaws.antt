-- Get Log Page is read back from its entry, and so are logs from their bytes.
use Rattle.std.proofs.lemmas.Bool.Decides.{nat_tests}
use Rattle.std.proofs.lemmas.Grind.{common_steps}
use Rattle.std.proofs.Common.{rules, ◌≡◌, ◌∙◌, ℕ, zero, suc, ◌+◌, ◌-◌, ◌*◌, ◌/◌, ◌<◌, ◌≤◌, ◌^◌}
use Rattle.std.proofs.Common.{List, [], ◌∷◌, ap, arith, drop, get_or, length}
use Rattle.std.proofs.Common.{map, refl, sym, take}
use Rattle.std.specs.List.{AllByRecursion}
use Rattle.std.specs.Simd.{first_chunks}
use Rattle.std.proofs.lemmas.List.{length-map}
use Rattle.nv_layout.specs.ErrorEntry.{ErrorEntryFits, no_entry}
use Rattle.nv_layout.specs.ErrorEntryBytes.{bytes_of_entries, bytes_of_error_entry, without_phase}
use Rattle.nv_layout.proofs.LogLaws.{error_entry_back, fits_with_phase, length-bytes_of_error_entry}
use Rattle.nv_layout.proofs.LogLaws.{length-bytes_of_smart, part_of_entry, smart_back}
use Rattle.nv_layout.proofs.PartLaws.{get_or-past, length-part, map_read, part-part, part_whole}
use Rattle.nv_layout.specs.Bits.{at_bits, bits}
use Rattle.nv_layout.specs.Parts.{part}
use Rattle.nv_layout.specs.Smart.{bytes_of_smart, smart_of_bytes}
use Rattle.nv_layout.specs.declared.error_entry.ErrorEntry.{ErrorEntry}
use Rattle.nv_command.proofs.EntryLaws.{FieldsFit, IsDecoded}
use Rattle.nv_command.specs.Logs.{GetLogFits, IsWhole, entries_in, entry_received}
use Rattle.nv_command.specs.Logs.{without_phases}
use Rattle.nv_command.specs.Received.{first_entries, first_of_log}
use Rattle.nv_command.specs.Form.{get_log_fields}
use Rattle.nv_command.specs.LogPage.{log_kind}
use Rattle.nv_command.specs.declared.log_page.LogPage.{LogPage}
use Rattle.nv_command.specs.declared.log_page.LogPage.TheVariants.{ErrorInformation, Health}
use Rattle.nv_command.specs.Reply.{FitsRecord, IsReplyTo, dword0_of, kind_of, log_of, reply_by}
use Rattle.nv_command.specs.declared.command.Command.{Command}
use Rattle.nv_command.specs.declared.command.Command.TheVariants.{GetLog}
use Rattle.nv_command.specs.declared.logs.LogQuery.{LogQuery}
use Rattle.nv_command.specs.declared.reply.Reply.{Reply}
use Rattle.nv_command.specs.declared.reply.Reply.TheVariants as reply

-- the fields of the entry of a Get Log Page that fits fit their bits
pub get_log_fits : (q : LogQuery) → GetLogFits q → FieldsFit (get_log_fields q)
get_log_fits q fits = search (rules, arith, fits)

-- NUMDL, with NUMDU in the upper half, plus 1 is the number of dwords that are asked for
pub dwords_back : (lid dwords : ℕ) → 0 < dwords → dwords ≤ 2 ^ 32
    → bits 16 16 (at_bits 0 8 lid + at_bits 16 16 (dwords - 1))
    + at_bits 16 16 (bits 16 16 (dwords - 1)) + 1 ≡ dwords
dwords_back lid dwords some h = omega arith

-- the entry of a Get Log Page that fits is decoded to that command
pub get_log_back : (q : LogQuery) → GetLogFits q → IsDecoded (GetLog q)
get_log_back q fits cid prp1 prp2 = search rules

-- ---- entries in bytes

-- first_chunks makes as many pieces as were asked for
length-first_chunks : (w n : ℕ) (xs : List ℕ) → length (first_chunks w n xs) ≡ n
length-first_chunks w zero xs = refl
length-first_chunks w (suc n) xs = ap suc (length-first_chunks w n (drop w xs))

-- piece k that first_chunks makes is the w elements from w * k on
get_or-first_chunks : (w n : ℕ) (xs : List ℕ) (k : ℕ) → k < n
    → get_or (first_chunks w n xs) k [] ≡ take w (drop (w * k) xs)
get_or-first_chunks w zero xs k h = absurd (omega arith)
get_or-first_chunks w (suc n) xs zero h = grind (arith, nat_tests)
get_or-first_chunks w (suc n) xs (suc k) h =
    grind (arith, common_steps, get_or-first_chunks w n (drop w xs) k (omega arith))

-- entry k of entries that all fit fits, and so does no_entry past their end
each_fits : (es : List ErrorEntry) (k : ℕ) → AllByRecursion ErrorEntryFits es
    → ErrorEntryFits (get_or es k no_entry)
each_fits es k h = grind (arith, common_steps)

-- first_entries gives as many entries as were asked for
length-first_entries : (count : ℕ) (es : List ErrorEntry) → length (first_entries count es) ≡ count
length-first_entries count es = grind (arith, common_steps)

-- the requested part of a log, as whole entries
abbrev asked_of : List ErrorEntry → ℕ → List ℕ
asked_of es count = part (bytes_of_entries es) 0 (64 * count)

-- the 64 bytes at 64 * k of the requested part are the bytes of entry k, or of no_entry past the last entry
chunk_of_entry : (es : List ErrorEntry) (count k : ℕ) → k < count
    → take 64 (drop (64 * k) (asked_of es count)) ≡ bytes_of_error_entry (get_or es k no_entry)
chunk_of_entry es count k h =
    let e = get_or es k no_entry in
    part-part (bytes_of_entries es) 0 (64 * count) (64 * k) 64 (omega arith)
    ∙ ap (λ m. part (bytes_of_entries es) m 64) (omega arith)
    ∙ part_of_entry es k 0 64 (omega arith)
    ∙ part_whole (bytes_of_error_entry e) 64 (length-bytes_of_error_entry e)

-- entry k is received from its 64 bytes without its phase tag
entry_back : (es : List ErrorEntry) (count k : ℕ) → AllByRecursion ErrorEntryFits es → k < count
    → get_or (first_entries count (map without_phase es)) k no_entry
    ≡ entry_received (get_or (first_chunks 64 count (asked_of es count)) k [])
entry_back es count k fits h =
    grind (arith, common_steps, get_or-past, error_entry_back, each_fits, chunk_of_entry, get_or-first_chunks)

-- the entries in the requested part are the first `count` entries without their phase tags
entries_back : (es : List ErrorEntry) (count : ℕ) → AllByRecursion ErrorEntryFits es
    → entries_in (asked_of es count) ≡ first_entries count (map without_phase es)
entries_back es count fits =
    let bytes = asked_of es count in
    let whole = length-part (bytes_of_entries es) 0 (64 * count) in
    let size : length bytes / 64 ≡ count = omega (arith, whole) in
    let chunks = length-first_chunks 64 count bytes in
    let entries = first_entries count (map without_phase es) in
    ap (λ n. map entry_received (first_chunks 64 n bytes)) size
    ∙ sym (map_read entry_received (first_chunks 64 count bytes) entries [] no_entry
    (length-first_entries count (map without_phase es) ∙ sym chunks)
    (λ k below. entry_back es count k fits (omega (arith, chunks))))

-- a log that is read from its beginning arrives as its first entries, without phase tags, or as the whole health log
pub log_arrives : (page : LogPage) (r : Reply) (offset dwords : ℕ) → kind_of r ≡ log_kind page
    → FitsRecord r
    → IsWhole page offset dwords
    → reply_by (log_kind page) (dword0_of r) (part (log_of r) offset (4 * dwords))
    ≡ first_of_log (dwords / 16) (without_phases r)
log_arrives ErrorInformation (reply.Errors es) offset dwords is fits whole =
    let size : 4 * dwords ≡ 64 * (dwords / 16) = omega (arith, whole.1.whole) in
    (λ i. reply.Errors (entries_in (part (bytes_of_entries es) (whole.0 i) (size i))))
    ∙ ap reply.Errors (entries_back es (dwords / 16) fits.entries)
log_arrives Health (reply.Smart r) offset dwords is fits whole =
    (λ i. reply.Smart (smart_of_bytes (part (bytes_of_smart r) (whole.0 i) (whole.1 i))))
    ∙ ap (λ b. reply.Smart (smart_of_bytes b))
    (part_whole (bytes_of_smart r) 512 (length-bytes_of_smart r fits.sensor_count))
    ∙ ap reply.Smart (smart_back r fits)
log_arrives page r offset dwords is fits whole = absurd (cc)

-- ---- facts about a reply without its phase tags

-- the kind of a reply doesn't depend on phase tags
kind-without_phases : (r : Reply) → kind_of (without_phases r) ≡ kind_of r
kind-without_phases r = search rules

-- if a reply without its phase tags is one to a command, so is the reply
pub is_reply-without_phases : (k : Command) (r : Reply) → IsReplyTo k (without_phases r)
    → IsReplyTo k r
is_reply-without_phases k r is = sym (kind-without_phases r) ∙ is

-- if entries fit their bits without their phase tags, they also fit with them
entries_fit : (es : List ErrorEntry) → AllByRecursion ErrorEntryFits (map without_phase es)
    → AllByRecursion ErrorEntryFits es
entries_fit [] fits = tt
entries_fit (e ∷ es) fits = (fits_with_phase (without_phase e) e.phase fits.0, entries_fit es fits.1)

-- if a reply fits its record without its phase tags, it also fits with them
pub fits-without_phases : (r : Reply) → FitsRecord (without_phases r) → FitsRecord r
fits-without_phases r h = search (rules, length-map, entries_fit)
