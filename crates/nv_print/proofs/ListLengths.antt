-- How long the texts and the JSON of lists are.
use Rattle.nv_print.proofs.Words.{[], ℕ, ◌%◌, ◌*◌, ◌++◌, ◌+◌, ◌<◌, ◌^◌, ◌∷◌, ◌≤◌, All, Data, ErrorEntry}
use Rattle.nv_print.proofs.Words.{IdNs, Lbaf, List, arith, array, common_steps, compact_text, entries_text, entry_text}
use Rattle.nv_print.proofs.Words.{false, field, field_line, fields_text, filter, formats_of, get_or, holds_error}
use Rattle.nv_print.proofs.Words.{in_decimal, items_of, lbaf_line, length, length-append, length-take}
use Rattle.nv_print.proofs.Words.{lines_of, map, no_members, nsid_line, nsids_text, number, object_of, suc}
use Rattle.nv_print.proofs.Words.{nat_tests, unsigned}
use Rattle.std.proofs.Common.{min}
use Rattle.std.specs.Prelude.{⊤, codes}
use Rattle.nv_layout.specs.Limits.{most_nsids}
use Rattle.nv_print.specs.Field.{members_of}
use Rattle.nv_print.specs.Records.{entries_data, fields_of_entry, fields_of_id_ns, fields_of_lbaf, mark_of}
use Rattle.nv_print.specs.Records.{namespace_data, namespace_text, nsids_data}
use Rattle.nv_print.proofs.FieldLengths.{field_line-length, members_length-width, within_length}
use Rattle.nv_print.proofs.JsonLengths.{items_length, list_object_length, put_length, with_fields_length}
use Rattle.nv_print.proofs.Lengths.{decimal_length, decimal_short, hexadecimal_short, quoted_length, right_length}
use Rattle.nv_print.proofs.RecordLengths.{entry_json, entry_text_length, id_ns_members, id_ns_text, lbaf_json}
use Rattle.nv_print.proofs.RecordLengths.{lbaf_width}

-- lines of at most `most` bytes each, with indices below a limit, have at most `most` bytes for each element
lines_length : {A : Type 0} (line : ℕ → A → List ℕ) (fits : A → Type 0) (limit most : ℕ)
    → ((i : ℕ) (x : A) → i < limit → fits x → length (line i x) ≤ most)
    → (i : ℕ) (xs : List A) → i + length xs ≤ limit → All fits xs → length (lines_of line i xs) ≤ most * length xs
lines_length line fits limit most each i [] within all = omega arith
lines_length line fits limit most each i (x ∷ xs) within all =
    let first : length (line i x) ≤ most = each i x (omega arith) (all 0 x (omega arith)) in
    let others =
    lines_length line fits limit most each (i + 1) xs (omega arith) (λ k d h. all (suc k) d (omega arith)) in
    omega (arith, length-append (line i x) (lines_of line (i + 1) xs))

-- ---- namespaces

-- the line of an NSID has at most 42 bytes
nsid_line_length : (i nsid : ℕ) → i < 2 ^ 64 → nsid < 2 ^ 64 → length (nsid_line i nsid) ≤ 42
nsid_line_length i nsid hi hn =
    grind (arith, common_steps, right_length, decimal_short, hexadecimal_short, length-append)

-- the lines of a namespace list have at most 65,536 bytes
pub nsids_text_length : (nsids : List ℕ) → length nsids ≤ most_nsids → All (λ n. n < 2 ^ 64) nsids
    → length (nsids_text nsids) ≤ 65536
nsids_text_length nsids few fit =
    omega (arith, lines_length nsid_line (λ n. n < 2 ^ 64) (2 ^ 64) 42 nsid_line_length 0 nsids (omega arith) fit)

-- the JSON of a namespace list has at most 65,000 bytes
pub nsids_json_length : (nsids : List ℕ) → length nsids ≤ most_nsids → All (λ n. n < 2 ^ 64) nsids
    → length (compact_text (nsids_data nsids)) ≤ 65000
nsids_json_length nsids few fit =
    omega (
      arith,
      list_object_length (codes "nsids") (λ n. number (unsigned n)) 20 nsids
          (λ k d h. decimal_short (get_or nsids k d) (fit k d h)),
    )

-- ---- formats of a namespace

-- the mark of the format in use has at most nine bytes
mark_length : (in_use i : ℕ) → length (mark_of in_use i) ≤ 9
mark_length in_use i = grind (arith, nat_tests)

-- the line of a format has at most 400 bytes
lbaf_line_length : (in_use i : ℕ) (f : Lbaf) → length (lbaf_line in_use i f) ≤ 400
lbaf_line_length in_use i f =
    grind (arith, common_steps, right_length, decimal_length, within_length, lbaf_width, mark_length, length-append)

-- a namespace has at most 16 formats to show
formats_length : (r : IdNs) → length (formats_of r) ≤ 16
formats_length r = omega (arith, length-take (min r.nlbaf 15 + 1) r.lbafs)

-- the text of a namespace has at most 65,536 bytes
pub namespace_text_length : (r : IdNs) → length (namespace_text r) ≤ 65536
namespace_text_length r = omega (
  arith,
  id_ns_text r,
  formats_length r,
  length-append (fields_text (fields_of_id_ns r)) (lines_of (lbaf_line (r.flbas % 16)) 0 (formats_of r)),
  lines_length (lbaf_line (r.flbas % 16)) (λ f. ⊤) 16 400 (λ i f h t. lbaf_line_length (r.flbas % 16) i f) 0
      (formats_of r) (omega (arith, formats_length r)) (λ k d h. tt),
)

-- the JSON of a namespace has at most 65,000 bytes
pub namespace_json_length : (r : IdNs) → length (compact_text (namespace_data r)) ≤ 65000
namespace_json_length r =
    let formats : Data = array (items_of (map (λ f. object_of (fields_of_lbaf f)) (formats_of r))) in
    omega (
      arith,
      put_length false (codes "lbafs") formats (members_of (fields_of_id_ns r)),
      quoted_length (codes "lbafs"),
      with_fields_length (fields_of_id_ns r) no_members,
      members_length-width (fields_of_id_ns r),
      id_ns_members r,
      formats_length r,
      items_length (λ f. object_of (fields_of_lbaf f)) 300 false (formats_of r)
          (λ k d h. lbaf_json (get_or (formats_of r) k d)),
    )

-- ---- entries of an error log

-- the text of an entry that holds an error has at most 1,024 bytes
entry_length : (i : ℕ) (e : ErrorEntry)
    → length (field_line (field (codes "entry") (in_decimal i)) ++ fields_text (fields_of_entry e)) ≤ 1024
entry_length i e = omega (
  arith,
  field_line-length (field (codes "entry") (in_decimal i)),
  entry_text_length e,
  length-append (field_line (field (codes "entry") (in_decimal i))) (fields_text (fields_of_entry e)),
)

-- an entry before others adds at most 1,024 bytes if it holds an error, and none otherwise
one_entry : (i : ℕ) (e : ErrorEntry) (es : List ErrorEntry)
    → length (lines_of entry_text (i + 1) es) ≤ 1024 * length (filter holds_error es)
    → length (lines_of entry_text i (e ∷ es)) ≤ 1024 * length (filter holds_error (e ∷ es))
one_entry i e es others = grind (arith, common_steps, entry_length, length-append)

-- the text of entries has at most 1,024 bytes for each one that holds an error
entries_length : (i : ℕ) (es : List ErrorEntry)
    → length (lines_of entry_text i es) ≤ 1024 * length (filter holds_error es)
entries_length i [] = omega arith
entries_length i (e ∷ es) = one_entry i e es (entries_length (i + 1) es)

-- the text of an error log has at most 1,024 bytes for each entry that holds an error
pub entries_text_length : (es : List ErrorEntry) → length (entries_text es) ≤ 1024 * length (filter holds_error es)
entries_text_length es = entries_length 0 es

-- the JSON of an error log has at most 65,000 bytes and 1,024 for each entry that holds an error
pub entries_json_length : (es : List ErrorEntry)
    → length (compact_text (entries_data es)) ≤ 65000 + 1024 * length (filter holds_error es)
entries_json_length es =
    omega (
      arith,
      list_object_length (codes "errors") (λ e. object_of (fields_of_entry e)) 1000 (filter holds_error es)
          (λ k d h. entry_json _),
    )
