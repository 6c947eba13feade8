-- How long the compact text of JSON is.
use Rattle.nv_print.proofs.Words.{[], ℕ, ◌*◌, ◌+◌, ◌∷◌, ◌≡◌, ◌≤◌, All, Bool, Data, Field, List, Members, arith}
use Rattle.nv_print.proofs.Words.{array, common_steps, compact_text, false, items_of, length, length-append, map}
use Rattle.nv_print.proofs.Words.{member, no_members, object, object_of, put, quoted, shape_data, suc, true}
use Rattle.std.proofs.Common.{Equal, Greater, Less, Ordering, nat_cmp}
use Rattle.std.specs.Cmp.Lexicographic.{slice_cmp}
use Rattle.std.specs.Ordering.{match_ordering}
use Rattle.serde_json.specs.Written.{comma_if, items_text, members_text}
use Rattle.nv_print.specs.Field.{with_fields}
use Rattle.nv_print.proofs.Lengths.{quoted_length}

-- the greatest length that a member adds: its key, a colon, its value and a comma
abbrev pub member_length : List ℕ → Data → ℕ
member_length k d = length (quoted k) + length (compact_text d) + 2

-- the comma before a member has at most one byte
comma_length : (later : Bool) → length (comma_if later) ≤ 1
comma_length true = omega arith
comma_length false = omega arith

-- the text of members is the text of the first one and of the later ones, with a comma if there was one before
one_member : (later : Bool) (k : List ℕ) (d : Data) (ms : Members)
    → length (members_text later (member k d ms))
    ≡ length (comma_if later) +
    (length (quoted k) + (1 + (length (compact_text d) + length (members_text true ms))))
one_member later k d ms = grind (arith, common_steps, length-append)

-- a member that is put before, in place of or after another one adds at most its own length
placed : (o : Ordering) (later : Bool) (k l : List ℕ) (d e : Data) (ms rest : Members)
    → length (members_text true rest) ≤ length (members_text true ms) + member_length k d
    → length (members_text later (match_ordering o (member k d (member l e ms)) (member l d ms) (member l e rest)))
    ≤ length (members_text later (member l e ms)) + member_length k d
placed Less later k l d e ms rest h =
    omega (arith, one_member later k d (member l e ms), one_member true l e ms, one_member later l e ms)
placed Equal later k l d e ms rest h = omega (arith, one_member later l d ms, one_member later l e ms)
placed Greater later k l d e ms rest h = omega (arith, one_member later l e rest, one_member later l e ms)

-- putting a member into members adds at most the length of that member
pub put_length : (later : Bool) (k : List ℕ) (d : Data) (ms : Members)
    → length (members_text later (put k d ms)) ≤ length (members_text later ms) + member_length k d
put_length later k d no_members = omega (arith, one_member later k d no_members, comma_length later)
put_length later k d (member l e ms) =
    placed (slice_cmp nat_cmp k l) later k l d e ms (put k d ms) (put_length true k d ms)

-- the greatest length that fields add
abbrev pub members_length : List Field → ℕ
members_length [] = 0
members_length (f ∷ fields) = member_length f.key (shape_data f.shape) + members_length fields

-- adding fields to members adds at most the lengths of the fields as members
pub with_fields_length : (fields : List Field) (ms : Members)
    → length (members_text false (with_fields fields ms)) ≤ length (members_text false ms) + members_length fields
with_fields_length [] ms = omega arith
with_fields_length (f ∷ fields) ms =
    omega (
      arith,
      with_fields_length fields (put f.key (shape_data f.shape) ms),
      put_length false f.key (shape_data f.shape) ms,
    )

-- the object of fields is at most two bytes longer than the fields as members
pub object_length : (fields : List Field) → length (compact_text (object_of fields)) ≤ 2 + members_length fields
object_length fields = omega (arith, with_fields_length fields no_members)

-- a list whose elements have texts of at most `most` bytes has at most most + 1 bytes for each element and one more
pub items_length : {A : Type 0} (data_of : A → Data) (most : ℕ) (later : Bool) (xs : List A)
    → All (λ x. length (compact_text (data_of x)) ≤ most) xs
    → length (items_text later (items_of (map data_of xs))) ≤ 1 + (most + 1) * length xs
items_length data_of most later [] each = omega arith
items_length data_of most later (x ∷ xs) each =
    let first : length (compact_text (data_of x)) ≤ most = each 0 x (omega arith) in
    let others = items_length data_of most true xs (λ k d h. each (suc k) d (omega arith)) in
    omega (arith, comma_length later, length-append {A = ℕ})

-- an object of one such list has at most most + 1 bytes for each element, and 8 and six times its key more
pub list_object_length : {A : Type 0} (key : List ℕ) (data_of : A → Data) (most : ℕ) (xs : List A)
    → All (λ x. length (compact_text (data_of x)) ≤ most) xs
    → length (compact_text (object (put key (array (items_of (map data_of xs))) no_members)))
    ≤ 8 + (6 * length key + (most + 1) * length xs)
list_object_length key data_of most xs each = grind (arith, common_steps, put_length, items_length, quoted_length)
