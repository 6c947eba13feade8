-- A record as bytes: a table of its fields, each at its place.
use Rattle.std.specs.Prelude.{ℕ, zero, suc, ◌+◌, ◌*◌, List, [], ◌∷◌, ◌++◌, take, drop, fold, replicate}
use Rattle.std.specs.List.{flat_map}
use Rattle.byteorder.specs.Endian.{little_bytes, little_number}

-- a field of a record: its first byte, how many bytes it has, and its value. `numbers` are one
-- after the other: the second argument is the size of each, and the third how many there are
pub data Part : Type 0 where
  number : ℕ → ℕ → ℕ → Part
  numbers : ℕ → ℕ → ℕ → List ℕ → Part
  text : ℕ → ℕ → List ℕ → Part

-- the offset of a field's first byte
abbrev pub start_of : Part → ℕ
start_of (number at width x) = at
start_of (numbers at width count xs) = at
start_of (text at width bytes) = at

-- how many bytes a field has
abbrev pub width_of : Part → ℕ
width_of (number at width x) = width
width_of (numbers at width count xs) = width * count
width_of (text at width bytes) = width

-- a number's lowest byte comes first
abbrev pub bytes_of : Part → List ℕ
bytes_of (number at width x) = little_bytes width x
bytes_of (numbers at width count xs) = flat_map (little_bytes width) xs
bytes_of (text at width bytes) = bytes

-- the bytes with a field written over them
unfoldable pub placed : List ℕ → Part → List ℕ
placed bytes p =
    take (start_of p) bytes ++ (bytes_of p ++ drop (width_of p) (drop (start_of p) bytes))

-- a list of n zeros
unfoldable pub zeros : ℕ → List ℕ
zeros n = replicate n 0

-- the fields at their places, and zeros elsewhere
abbrev pub laid_out : ℕ → List Part → List ℕ
laid_out size parts = fold placed (zeros size) parts

-- ---- reading

-- the `width` bytes from `at` on
unfoldable pub text_at : ℕ → ℕ → List ℕ → List ℕ
text_at at width bytes = take width (drop at bytes)

-- the `n` bytes from `from` on, with zeros past the end
unfoldable pub part : List ℕ → ℕ → ℕ → List ℕ
part bytes from n = take n (drop from bytes ++ replicate n 0)

-- the number in these bytes
unfoldable pub number_at : ℕ → ℕ → List ℕ → ℕ
number_at at width bytes = little_number width (drop at bytes)

-- `count` numbers of `width` bytes each, one after the other
unfoldable pub numbers_at : ℕ → ℕ → ℕ → List ℕ → List ℕ
numbers_at at width zero bytes = []
numbers_at at width (suc count) bytes =
    number_at at width bytes ∷ numbers_at (at + width) width count bytes
