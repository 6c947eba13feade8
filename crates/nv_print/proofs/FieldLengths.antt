-- How long the text and the JSON of fields are.
use Rattle.nv_print.proofs.Words.{[], ℕ, ◌*◌, ◌+◌, ◌∷◌, ◌≤◌, Field, List, arith, as_text, common_steps, compact_text}
use Rattle.nv_print.proofs.Words.{decimal, field_line, field_within, fields_text, flat_map, in_decimal, in_hexadecimal}
use Rattle.nv_print.proofs.Words.{length, length-append, object_of, shape_data, six_digits}
use Rattle.nv_print.specs.Field.{Shape, in_six_digits, shape_text, wide}
use Rattle.nv_print.proofs.JsonLengths.{members_length, object_length}
use Rattle.nv_print.proofs.Lengths.{decimal_length, hexadecimal_length, left_length, quoted_length, six_digits_length}

-- ---- text

-- no number has more than 66 characters
abbrev pub shape_width : Shape → ℕ
shape_width (as_text t) = length t
shape_width _ = 66

-- the text of a value is no longer than the width of its shape
shape_text-width : (s : Shape) → length (shape_text s) ≤ shape_width s
shape_text-width (in_decimal n) = omega (arith, decimal_length n)
shape_text-width (in_hexadecimal n) = hexadecimal_length n
shape_text-width (wide n) = omega (arith, decimal_length n)
shape_text-width (in_six_digits n) = omega (arith, six_digits_length n)
shape_text-width (as_text t) = omega arith

-- the line of a field is at most 23 bytes longer than its key and the width of its value
pub field_line-length : (f : Field) → length (field_line f) ≤ 23 + (length f.key + shape_width f.shape)
field_line-length f = grind (arith, common_steps, left_length, shape_text-width, length-append)

-- the greatest length of the lines of fields
abbrev pub fields_width : List Field → ℕ
fields_width [] = 0
fields_width (f ∷ fields) = 23 + (length f.key + shape_width f.shape) + fields_width fields

-- the lines of fields are no longer than their width
pub fields_text-length : (fields : List Field) → length (fields_text fields) ≤ fields_width fields
fields_text-length [] = omega arith
fields_text-length (f ∷ fields) =
    omega (arith, length-append (field_line f) (fields_text fields), field_line-length f, fields_text-length fields)

-- fields within a line are no longer than their width
pub within_length : (fields : List Field) → length (flat_map field_within fields) ≤ fields_width fields
within_length [] = omega arith
within_length (f ∷ fields) = omega (
  arith,
  length-append (field_within f) (flat_map field_within fields),
  length-append f.key (58 ∷ shape_text f.shape),
  shape_text-width f.shape,
  within_length fields,
)

-- ---- JSON

-- the greatest length of a value in JSON
abbrev pub data_width : Shape → ℕ
data_width (in_decimal n) = 64
data_width (in_hexadecimal n) = 64
data_width (wide n) = 6 * 64 + 2
data_width (in_six_digits n) = 6 * 64 + 2
data_width (as_text t) = 6 * length t + 2

-- a value in JSON is no longer than the width of its shape
shape_data-width : (s : Shape) → length (compact_text (shape_data s)) ≤ data_width s
shape_data-width (in_decimal n) = decimal_length n
shape_data-width (in_hexadecimal n) = decimal_length n
shape_data-width (wide n) = omega (arith, quoted_length (decimal n), decimal_length n)
shape_data-width (in_six_digits n) = omega (arith, quoted_length (six_digits n), six_digits_length n)
shape_data-width (as_text t) = quoted_length t

-- the greatest length of fields as members of JSON
abbrev pub members_width : List Field → ℕ
members_width [] = 0
members_width (f ∷ fields) = 4 + (6 * length f.key + data_width f.shape) + members_width fields

-- the members of fields are no longer than their width
pub members_length-width : (fields : List Field) → members_length fields ≤ members_width fields
members_length-width [] = omega arith
members_length-width (f ∷ fields) =
    omega (arith, quoted_length f.key, shape_data-width f.shape, members_length-width fields)

-- the object of fields is at most two bytes longer than the width of its members
pub object_width : (fields : List Field) → length (compact_text (object_of fields)) ≤ 2 + members_width fields
object_width fields = omega (arith, object_length fields, members_length-width fields)
