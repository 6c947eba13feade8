-- How long the text and the JSON of a device are.
use Rattle.nv_print.proofs.Words.{[], ℕ, ◌%◌, ◌*◌, ◌++◌, ◌+◌, ◌<◌, ◌^◌, ◌∷◌, ◌≡◌, ◌≤◌, All, List}
use Rattle.nv_print.proofs.Words.{ListedDevice, arith, common_steps, compact_text, decimal, digit_glyph}
use Rattle.nv_print.proofs.Words.{escape, false, is_printable, length, length-append, nat_tests, node_of}
use Rattle.nv_print.proofs.Words.{object_of, printable, quoted, refl, suc, take_while, true}
use Rattle.std.specs.Prelude.{codes, nat_le}
use Rattle.std.specs.Fmt.{digits}
use Rattle.std.specs.List.{list_all}
use Rattle.std.proofs.lemmas.List.Elements.{All-append, All-cons, All-nil, All-take}
use Rattle.std.proofs.lemmas.List.Sums.{AllPass-from_list_all}
use Rattle.json.specs.Print.{escape_byte}
use Rattle.nv_print.specs.Devices.{device_line, fields_of_device}
use Rattle.nv_print.proofs.JsonLengths.{object_length}
use Rattle.nv_print.proofs.Lengths.{All-digits, decimal_length, decimal_short, left_length, printable_length}
use Rattle.nv_print.proofs.Lengths.{right_length}
use Rattle.nv_print.proofs.PrintableLaws.{each_printable}

-- ---- its line

-- the node of any namespace has at most 138 bytes
node_length : (controller nsid : ℕ) → length (node_of controller nsid) ≤ 138
node_length controller nsid = grind (arith, common_steps, decimal_length, length-append)

-- the node of a namespace with numbers of 64 bits has at most 64 bytes
pub node_short : (controller nsid : ℕ) → controller < 2 ^ 64 → nsid < 2 ^ 64 → length (node_of controller nsid) ≤ 64
node_short controller nsid c n = grind (arith, common_steps, decimal_short, length-append)

-- six columns with a space between them and a newline are six bytes longer than the columns
columns_length : (a b c d e f : List ℕ)
    → length (a ++ (32 ∷ b ++ (32 ∷ c ++ (32 ∷ d ++ (32 ∷ e ++ (32 ∷ f ++ 10 ∷ []))))))
    ≡ (length a + length b) + (length c + length d) + (length e + length f) + 6
columns_length a b c d e f = simp length-append (omega arith)

-- the line of a device with a serial number of 20 bytes and a model of 40 has at most 512 bytes
pub device_line_length : (d : ListedDevice) → length d.serial ≡ 20 → length d.model ≡ 40 → length (device_line d) ≤ 512
device_line_length d has_20 has_40 =
    grind (
      arith,
      common_steps,
      columns_length,
      left_length,
      right_length,
      node_length,
      printable_length,
      decimal_length,
    )

-- ---- its JSON

-- no byte of it is a control character
abbrev IsPlain : List ℕ → Type 0
IsPlain s = All (λ b. 32 ≤ b) s

-- a byte that isn't a control character is escaped in at most two bytes
escape_byte-plain : (x : ℕ) → 32 ≤ x → length (escape_byte x) ≤ 2
unfolding escape_byte
escape_byte-plain x h = grind (arith, nat_tests)

-- a text without control characters is at most twice as long when it is escaped
escape_plain : (s : List ℕ) → IsPlain s → length (escape s) ≤ 2 * length s
escape_plain [] h = omega arith
escape_plain (x ∷ s) h =
    let first : length (escape_byte x) ≤ 2 = escape_byte-plain x (h 0 x (omega arith)) in
    let others = escape_plain s (λ k d l. h (suc k) d (omega arith)) in
    omega (arith, length-append (escape_byte x) (escape s))

-- a text without control characters is quoted in at most twice its length and two bytes more
quoted_plain : (s : List ℕ) → IsPlain s → length (quoted s) ≤ 2 * length s + 2
quoted_plain s h = omega (arith, length-append (escape s) (34 ∷ []), escape_plain s h)

-- the character of a digit isn't a control character
glyph_plain : (n : ℕ) → 32 ≤ digit_glyph false (n % 10)
glyph_plain n = grind (arith, nat_tests)

-- a decimal number has no control characters
decimal_plain : (n : ℕ) → IsPlain (decimal n)
unfolding digits
decimal_plain n = All-digits (λ b. 32 ≤ b) 10 false glyph_plain 64 n [] (All-nil (λ b. 32 ≤ b))

-- a text that passes the test for control characters has none
literal_plain : (s : List ℕ) → list_all (λ b. nat_le 32 b) s ≡ true → IsPlain s
literal_plain s e k d h = grind (arith, common_steps, AllPass-from_list_all, nat_tests)

-- the node of a namespace has no control characters
node_plain : (controller nsid : ℕ) → IsPlain (node_of controller nsid)
node_plain controller nsid =
    All-append (λ b. 32 ≤ b) (codes "/dev/nvme") (decimal controller ++ (codes "n" ++ decimal nsid))
    (literal_plain (codes "/dev/nvme") refl)
    (All-append (λ b. 32 ≤ b) (decimal controller) (codes "n" ++ decimal nsid) (decimal_plain controller)
    (All-cons (λ b. 32 ≤ b) 110 (decimal nsid) (omega arith) (decimal_plain nsid)))

-- the printable part of some bytes has no control characters
printable_plain : (bs : List ℕ) → IsPlain (printable bs)
printable_plain bs = All-take (λ b. 32 ≤ b) _ (take_while is_printable bs) (λ k d h. plain _ (each_printable bs k d h))
  where
    plain : (b : ℕ) → is_printable b ≡ true → 32 ≤ b
    plain b p = grind (arith, nat_tests)

-- the JSON of a device with such texts and numbers of 64 bits has at most 511 bytes
pub device_lengths : (d : ListedDevice) → length d.serial ≡ 20 → length d.model ≡ 40 → d.controller < 2 ^ 64
    → d.nsid < 2 ^ 64 → d.bytes < 2 ^ 64 → d.block_size < 2 ^ 64
    → length (compact_text (object_of (fields_of_device d))) ≤ 511
unfolding fields_of_device escape_byte
device_lengths d has_20 has_40 controller nsid bytes block_size =
    let node : length (node_of d.controller d.nsid) ≤ 64 = node_short d.controller d.nsid controller nsid in
    omega (
      arith,
      object_length (fields_of_device d),
      quoted_plain (node_of d.controller d.nsid) (node_plain d.controller d.nsid),
      quoted_plain (printable d.serial) (printable_plain d.serial),
      printable_length d.serial,
      quoted_plain (printable d.model) (printable_plain d.model),
      printable_length d.model,
      decimal_short d.nsid nsid,
      decimal_short d.bytes bytes,
      decimal_short d.block_size block_size,
    )
