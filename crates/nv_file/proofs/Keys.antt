-- The keys of a map, and the keys of the members that it represents.
use Rattle.std.proofs.Common.{◌≡◌, List, [], ◌∷◌, String, BTreeMap, Global, map, string_bytes, refl}
use Rattle.std.specs.BTreeMap.{keys}
use Rattle.nv_file.proofs.Words.{bytes_eq, has_only, Key, key_text, list_all, list_any, members_view, table_view, Value}

-- whether each key of some entries is known is whether their members have only known keys
known_entries : (known : List Key) (es : List (String Global × Value))
    → list_all (λ k. list_any (λ x. bytes_eq (key_text x) (string_bytes k)) known) (map (λ e. e.0) es)
    ≡ has_only known (members_view es)
known_entries known [] = refl
known_entries known (e ∷ es) = rw (known_entries known es)

-- whether each key of a map is known is whether the members that it represents have only known keys
pub known_keys : (known : List Key) (m : BTreeMap (String Global) Value)
    → list_all (λ k. list_any (λ x. bytes_eq (key_text x) (string_bytes k)) known) (keys m) ≡ has_only
    known (table_view m)
known_keys known m = known_entries known m.entries
