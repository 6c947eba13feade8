-- A field of a record: its key and its value, as a line of text and as a member of JSON.
use Rattle.std.specs.Prelude.{ℕ, List, [], ◌∷◌, ◌++◌, codes, flat_map}
use Rattle.std.specs.Fmt.{decimal}
use Rattle.serde_json.specs.Data.{Data, number, unsigned, string, object, Members, no_members, put}
use Rattle.nv_print.specs.Text.{hexadecimal, six_digits}
use Rattle.nv_print.specs.Text.{left}
use Rattle.nv_print.specs.declared.field.FieldValue.{FieldValue}
use Rattle.nv_print.specs.declared.field.FieldValue.TheVariants as value

-- a value, and how it is shown
pub data Shape : Type 0 where
  in_decimal : ℕ → Shape
  in_hexadecimal : ℕ → Shape
  -- a number of sixteen bytes
  wide : ℕ → Shape
  in_six_digits : ℕ → Shape
  as_text : List ℕ → Shape

-- a field: its key, and its value with the way in which it is shown
pub record Field : Type 0 where
  pub key : List ℕ
  pub shape : Shape

-- the field with this key and this value
abbrev pub field : List ℕ → Shape → Field
field key shape = record { key = key; shape = shape }

-- the value of a field in the code
abbrev pub shape_of : FieldValue → Shape
shape_of (value.Decimal n) = in_decimal n
shape_of (value.Hexadecimal n) = in_hexadecimal n
shape_of (value.Wide n) = wide n
shape_of (value.SixDigits n) = in_six_digits n
shape_of (value.Text t) = as_text t.now

-- a value as text
abbrev pub shape_text : Shape → List ℕ
shape_text (in_decimal n) = decimal n
shape_text (in_hexadecimal n) = hexadecimal n
shape_text (wide n) = decimal n
shape_text (in_six_digits n) = six_digits n
shape_text (as_text t) = t

-- its key at the left of 20 characters, and its value
abbrev pub field_line : Field → List ℕ
field_line f = left 20 f.key ++ (codes ": " ++ (shape_text f.shape ++ 10 ∷ []))

-- the lines of fields
abbrev pub fields_text : List Field → List ℕ
fields_text fields = flat_map field_line fields

-- a number of sixteen bytes is a string in JSON, because a reader may round it as a number
abbrev pub shape_data : Shape → Data
shape_data (in_decimal n) = number (unsigned n)
shape_data (in_hexadecimal n) = number (unsigned n)
shape_data (wide n) = string (decimal n)
shape_data (in_six_digits n) = string (six_digits n)
shape_data (as_text t) = string t

-- some members, with the fields added
abbrev pub with_fields : List Field → Members → Members
with_fields [] members = members
with_fields (f ∷ fields) members = with_fields fields (put f.key (shape_data f.shape) members)

-- the members that fields form
abbrev pub members_of : List Field → Members
members_of fields = with_fields fields no_members

-- the object that fields form
abbrev pub object_of : List Field → Data
object_of fields = object (members_of fields)
