-- Laws of the values of features under their keys.
use Rattle.std.proofs.lemmas.Grind.{common_steps}
use Rattle.std.proofs.Common.{◌≡◌, ◌==◌, ◌&&◌, Bool, true, cond, Option, Some, None, arith}
use Rattle.std.proofs.Common.{rules}
use Rattle.std.specs.FinMap as map_of
use Rattle.std.specs.Cmp.Lexicographic.{nat_list_cmp_total}
use Rattle.nv_model.specs.Values.{FeatureValues, ValueKey, key_cmp, numbers_of}
use Rattle.nv_model.proofs.Words.{eq_by_cmp, Equal-is, FeatureValue, get-insert, get-remove, get-retain_keys}
use Rattle.nv_model.proofs.Words.{IsAntisymmetric, IsTotalOrder, option_map_or}
use Rattle.nv_model.proofs.Words.{same_map}

-- ---- the order of keys

-- the order of keys is total
pub key_cmp_total : IsTotalOrder key_cmp
key_cmp_total = record {
  antisymm = λ x y. nat_list_cmp_total.antisymm (numbers_of x) (numbers_of y);
  trans = λ x y z. nat_list_cmp_total.trans (numbers_of x) (numbers_of y) (numbers_of z);
  congr = λ x y z. nat_list_cmp_total.congr (numbers_of x) (numbers_of y) (numbers_of z);
}

-- the order of keys is antisymmetric
pub key_cmp-IsAntisymmetric : IsAntisymmetric key_cmp
key_cmp-IsAntisymmetric x y e = search rules

-- the same key
abbrev pub is_key : ValueKey → ValueKey → Bool
is_key q k = eq_by_cmp key_cmp q k

-- keys that pass the test for the same key are equal
pub same_key : (q k : ValueKey) → is_key q k ≡ true → q ≡ k
same_key q k e = key_cmp-IsAntisymmetric q k ((Equal-is (key_cmp q k)).0 e)

-- two keys are the same if their three numbers are
pub by_numbers : (q k : ValueKey) → is_key q k
    ≡ ((q.fid == k.fid) && ((q.nsid == k.nsid) && (q.selector == k.selector)))
by_numbers q k = search rules

-- ---- what is found after a change

-- after x is inserted under k, k has x, and each other key has its own value
pub value_of_insert : (m : FeatureValues) (k : ValueKey) (x : FeatureValue) (q : ValueKey)
    → map_of.get (map_of.insert m k x) q ≡ cond (is_key q k) (Some x) (map_of.get m q)
value_of_insert m k x q = get-insert key_cmp_total m k x q

-- after the value of k is removed, k has none, and each other key has its own value
pub value_of_remove : (m : FeatureValues) (k q : ValueKey)
    → map_of.get (map_of.remove m k) q ≡ cond (is_key q k) None (map_of.get m q)
value_of_remove m k q = get-remove key_cmp_total m k q

-- after keys are removed that fail a test, each key that passes has its own value
pub value_of_retain : (m : FeatureValues) (p : ValueKey → Bool) (q : ValueKey)
    → map_of.get (map_of.retain_keys m p) q ≡ cond (p q) (map_of.get m q) None
value_of_retain m p q = search (rules, get-retain_keys)

-- two maps in which each key has the same value are equal
pub same_values : (m n : FeatureValues)
    → ((q : ValueKey) → map_of.get m q ≡ map_of.get n q) → m ≡ n
same_values m n = same_map key_cmp_total key_cmp-IsAntisymmetric m n

-- removing a missing value changes nothing
pub removed_absent : (m : FeatureValues) (k : ValueKey) → map_of.get m k ≡ None
    → map_of.remove m k ≡ m
removed_absent m k none = search (rules, same_values, value_of_remove, same_key)

-- writing a value that is there changes nothing
pub put_back : (m : FeatureValues) (k : ValueKey) (o : Option FeatureValue) → map_of.get m k ≡ o
    → option_map_or (map_of.insert m k) o (map_of.remove m k) ≡ m
put_back m k o h = grind (arith, common_steps, removed_absent, same_values, value_of_insert)
