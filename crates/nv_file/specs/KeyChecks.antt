-- What a table has at a key, and the checks of one key. `t` is the table and `k` the key, as a
-- fault names them; `m` are the members of the table.
use Rattle.std.specs.Prelude.{ℕ, ℤ, pos, negsuc, Bool, true, false, not, ◌&&◌, ◌||◌, ◌==◌, List, [], ◌∷◌, ◌++◌, length}
use Rattle.std.specs.Prelude.{Option, Some, option_and_then, unwrap_or, is_some, nat_le}
use Rattle.std.specs.List.{list_all, list_any}
use Rattle.std.specs.Option.{option_map_or}
use Rattle.std.specs.Str.{bytes_eq}
use Rattle.toml.specs.Data.{Data, Items, no_items, item, Members, no_members, member, get_member}
use Rattle.toml.specs.Data.{as_integer, as_str, as_bool, as_array, as_table}
use Rattle.nv_model.specs.Ranges.{is_text}
use Rattle.nv_file.specs.declared.error.SubsystemError.TheVariants.{Missing, Kind, Range, Repeated, Unknown}
use Rattle.nv_file.specs.declared.table_name.TableName.{TableName}
use Rattle.nv_file.specs.declared.key.Key.{Key}
use Rattle.nv_file.specs.Names.{key_text}
use Rattle.nv_file.specs.Check.{Check, check}

-- ---- the value of a key

-- whether the key has a value
abbrev pub has_key : Key → Members → Bool
has_key k m = is_some (get_member (key_text k) m)

-- the value of the key, if it is of a kind
abbrev pub at : {A : Type 0} → (Data → Option A) → Key → Members → Option A
at kind k m = option_and_then kind (get_member (key_text k) m)

-- the items, each converted by `kind`, after the ones in `before`, if all are of the kind
abbrev pub items_as : {A : Type 0} → (Data → Option A) → List A → Items → Option (List A)
items_as kind before no_items = Some before
items_as kind before (item d ds) =
    option_and_then (λ x. items_as kind (before ++ x ∷ []) ds) (kind d)

-- lists whose items are all tables, or all integers
abbrev pub as_tables : Data → Option (List Members)
as_tables d = option_and_then (items_as as_table []) (as_array d)

-- the integers of a list whose items are all integers
abbrev pub as_integers : Data → Option (List ℤ)
as_integers d = option_and_then (items_as as_integer []) (as_array d)

-- an integer as a number; one below 0 counts as 0
abbrev pub number : ℤ → ℕ
number (pos n) = n
number (negsuc n) = 0

-- the number at a key, or the default
unfoldable pub number_at : Key → ℕ → Members → ℕ
number_at k default m = option_map_or number (at as_integer k m) default

-- the truth value at a key, or the default
unfoldable pub flag_at : Key → Bool → Members → Bool
flag_at k default m = unwrap_or (at as_bool k m) default

-- the text at a key, or an empty one
unfoldable pub text_at : Key → Members → List ℕ
text_at k m = unwrap_or (at as_str k m) []

-- the integers at a key, or none
unfoldable pub integers_at : Key → Members → List ℤ
integers_at k m = unwrap_or (at as_integers k m) []

-- the tables at a key, or none
unfoldable pub tables_at : Key → Members → List Members
tables_at k m = unwrap_or (at as_tables k m) []

-- a table that is missing has no members
unfoldable pub table_at : Key → Members → Members
table_at k m = unwrap_or (at as_table k m) no_members

-- ---- checks; a check of a kind or of limits holds if the key has no value

-- the key must have a value
abbrev pub needed : TableName → Key → Members → List Check
needed t k m = check (has_key k m) (Missing t k)

-- the value of the key must be of the kind
unfoldable pub of_kind : {A : Type 0} → TableName → Key → (Data → Option A) → Members → List Check
of_kind t k kind m = check (not (has_key k m) || is_some (at kind k m)) (Kind t k)

-- a condition whose fault is that the key is out of range
abbrev pub in_limits : TableName → Key → Bool → List Check
in_limits t k holds = check holds (Range t k)

-- a value of a kind that is allowed
abbrev pub limited : {A : Type 0} → TableName → Key → (Data → Option A) → (A → Bool) → Members
    → List Check
limited t k kind allowed m =
    of_kind t k kind m ++ in_limits t k (option_map_or allowed (at kind k m) true)

-- whether an integer is from `low` to `high`
abbrev pub is_within : ℕ → ℕ → ℤ → Bool
is_within low high (pos n) = nat_le low n && nat_le n high
is_within low high (negsuc n) = false

-- an integer from `low` to `high`, if there is one
unfoldable pub optional_integer : TableName → Key → ℕ → ℕ → Members → List Check
optional_integer t k low high m = limited t k as_integer (is_within low high) m

-- the same for several keys
abbrev pub optional_integers : TableName → List Key → ℕ → ℕ → Members → List Check
optional_integers t [] low high m = []
optional_integers t (k ∷ ks) low high m =
    optional_integer t k low high m ++ optional_integers t ks low high m

-- a truth value, if there is one
abbrev pub flag : TableName → Key → Members → List Check
flag t k m = of_kind t k as_bool m

-- a list of at most `most` integers from 0 to high
unfoldable pub optional_list : TableName → Key → ℕ → ℕ → Members → List Check
optional_list t k most high m =
    of_kind t k as_integers m
    ++ in_limits t k (nat_le (length (integers_at k m)) most)
    ++ in_limits t k (list_all (is_within 0 high) (integers_at k m))

-- an integer that must be there
unfoldable pub integer : TableName → Key → ℕ → ℕ → Members → List Check
integer t k low high m = needed t k m ++ optional_integer t k low high m

-- a text that must be there
unfoldable pub text : TableName → Key → ℕ → Members → List Check
text t k most m = needed t k m ++ limited t k as_str (is_text most) m

-- a list of one to `most` tables that must be there
unfoldable pub tables : TableName → Key → ℕ → Members → List Check
tables t k most m =
    needed t k m
    ++ limited t k as_tables (λ found. nat_le 1 (length found) && nat_le (length found) most) m

-- whether a number is among others
unfoldable pub is_among : List ℕ → ℕ → Bool
is_among numbers n = list_any (λ other. other == n) numbers

-- none of the tables before has the number
abbrev pub not_repeated : TableName → Key → List ℕ → ℕ → List Check
not_repeated t k before n = check (not (is_among before n)) (Repeated t k)

-- a key is one of the known ones
abbrev pub is_known : List Key → List ℕ → Bool
is_known known k = list_any (λ x. bytes_eq (key_text x) k) known

-- each key of some members is a known one
abbrev pub has_only : List Key → Members → Bool
has_only known no_members = true
has_only known (member k d ms) = is_known known k && has_only known ms

-- no keys but the known ones
abbrev pub no_other : TableName → List Key → Members → List Check
no_other t known m = check (has_only known m) (Unknown t)

-- the checks of each table of a list, which depend on the numbers of the tables before it
abbrev pub each : (Members → ℕ) → (List ℕ → Members → List Check) → List ℕ → List Members
    → List Check
each number_of checks before [] = []
each number_of checks before (m ∷ ms) =
    checks before m ++ each number_of checks (before ++ number_of m ∷ []) ms
