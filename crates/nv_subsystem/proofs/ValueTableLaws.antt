-- Laws of the tables that hold the values of features.
use Rattle.std.proofs.Common.{◌≡◌, ◌≢◌, ◌∙◌, ℕ, ◌+◌, ◌*◌, ◌/◌, ◌%◌, ◌==◌, ◌&&◌, Bool, true, false, cond, List, [], ◌∷◌}
use Rattle.std.proofs.Common.{◌++◌, map, Option, Some, None, is_some, refl, sym, ap, subst, arith}
use Rattle.std.specs.FinMap as map_of
use Rattle.std.specs.FinMap.Entries.{find}
use Rattle.nv_layout.specs.declared.feature.Feature.TheVariants.{ErrorRecovery}
use Rattle.nv_model.specs.Change.{changed_at}
use Rattle.nv_model.proofs.ValueLaws.{by_numbers, is_key, key_cmp_total, put_back, removed_absent, same_values}
use Rattle.nv_model.proofs.ValueLaws.{value_of_insert, value_of_remove, value_of_retain}
use Rattle.nv_model.specs.declared.feature_value.FeatureValue.{FeatureValue}
use Rattle.nv_subsystem.proofs.Words.{all_restored, AreRestored, AreTables, default_of, Feature, FeatureRules}
use Rattle.nv_subsystem.proofs.Words.{FeatureValues, first_value, get-all_restored, get-empty, get-entries}
use Rattle.nv_subsystem.proofs.Words.{get-from_entries, get_of_insert, get_of_remove, if◌then◌else◌, is_alone}
use Rattle.nv_subsystem.proofs.Words.{is_selector, is_set, IsOf, IsOver, key_at, key_cmp, key_of, keyed, nat_cmp}
use Rattle.nv_subsystem.proofs.Words.{nat_lt, nat_tests, NumberMap, of_namespaces, option_map, option_map_or, option_or}
use Rattle.nv_subsystem.proofs.Words.{other_identifier, RangeMap, recovery_key, restored, restored_at, row_of, rule_for}
use Rattle.nv_subsystem.proofs.Words.{selector_below, unsigned_tied, ValueKey, values_of, ValueTable, write}

-- a map from numbers to values of features
abbrev Table : Type 0
Table = NumberMap FeatureValue

-- ---- what the tables have for a key

-- only where a test says so
abbrev if_so : Bool → Option FeatureValue → Option FeatureValue
if_so b o = cond b o None

-- the value of a key in two lists is its value in the first one, or else in the second
find_append : (q : ValueKey) (xs ys : List (ValueKey × FeatureValue))
    → find key_cmp q (xs ++ ys) ≡ option_or (find key_cmp q xs) (find key_cmp q ys)
find_append q [] ys = refl
find_append q (x ∷ xs) ys = at_test (is_key q x.0) (find key_cmp q (xs ++ ys)) (find_append q xs ys)
  where
    at_test : (b : Bool) (o : Option FeatureValue) → o ≡ option_or (find key_cmp q xs) (find key_cmp q ys)
        → cond b (Some x.1) o ≡ option_or (cond b (Some x.1) (find key_cmp q xs)) (find key_cmp q ys)
    at_test true o e = refl
    at_test false o e = e

-- looking up a key in a table's keyed entries finds what the number has, if the key is a number's, and else nothing
find_keyed : (key : ℕ → ValueKey) (q : ValueKey) (is : Bool) (n : ℕ)
    → ((m : ℕ) → is_key q (key m) ≡ (is && (n == m))) → (es : List (ℕ × FeatureValue))
    → find key_cmp q (map (λ e. (key e.0, e.1)) es) ≡ if_so is (find nat_cmp n es)
find_keyed key q true n fits [] = refl
find_keyed key q false n fits [] = refl
find_keyed key q is n fits (e ∷ es) =
    (λ i. cond (fits e.0 i) (Some e.1) (find_keyed key q is n fits es i))
    ∙ at_test is (n == e.0)
    ∙ ap (λ t. if_so is (cond t (Some e.1) (find nat_cmp n es))) (sym (unsigned_tied n e.0))
  where
    at_test : (b same : Bool) → cond (b && same) (Some e.1) (if_so b (find nat_cmp n es))
        ≡ if_so b (cond same (Some e.1) (find nat_cmp n es))
    at_test true same = refl
    at_test false same = refl

-- Error Recovery has values by NSID, and any other feature by feature and selector
abbrev pub value_at : Table → Table → ValueKey → Option FeatureValue
value_at by_nsid by_feature q = option_or
    (if_so ((q.fid == 5) && (q.selector == 0)) (map_of.get by_nsid q.nsid))
    (if_so ((q.nsid == 0) && nat_lt q.selector 32) (map_of.get by_feature (q.fid * 32 + q.selector)))

-- a key is Error Recovery's for NSID n if and only if it has feature 5, selector 0 and this NSID
of_nsid : (q : ValueKey) (n : ℕ)
    → is_key q (recovery_key n) ≡ (((q.fid == 5) && (q.selector == 0)) && (q.nsid == n))
of_nsid q n = grind (arith, nat_tests, by_numbers q (recovery_key n))

-- a key belongs to place n if and only if it has NSID 0, a selector below 32, and this place by feature and selector
of_place : (q : ValueKey) (n : ℕ) → is_key q (key_at n)
    ≡ (((q.nsid == 0) && nat_lt q.selector 32) && ((q.fid * 32 + q.selector) == n))
of_place q n = grind (arith, nat_tests, by_numbers q (key_at n))

-- the values of two tables have for a key what the tables have for it
pub get_in : (by_nsid by_feature : Table) (q : ValueKey)
    → map_of.get (values_of by_nsid by_feature) q ≡ value_at by_nsid by_feature q
get_in by_nsid by_feature q =
    get-from_entries key_cmp_total _ q
    ∙ find_append q (keyed recovery_key by_nsid) (keyed key_at by_feature)
    ∙ λ i. option_or
    (found recovery_key ((q.fid == 5) && (q.selector == 0)) q.nsid (of_nsid q) by_nsid i)
    (found key_at ((q.nsid == 0) && nat_lt q.selector 32) (q.fid * 32 + q.selector) (of_place q) by_feature i)
  where
    found : (key : ℕ → ValueKey) (is : Bool) (n : ℕ) → ((m : ℕ) → is_key q (key m) ≡ (is && (n == m)))
        → (table : Table) → find key_cmp q (keyed key table) ≡ if_so is (map_of.get table n)
    found key is n fits table = find_keyed key q is n fits (map_of.entries table)
        ∙ ap (if_so is) (sym (get-entries table n))

-- ---- one value

-- these values with the greatest NSID
abbrev pub in_values : ℕ → FeatureValues → ValueTable
in_values nn values = record { nn = nn; values = values }

-- the values that two tables hold
abbrev pub in_tables : RangeMap FeatureValue → RangeMap FeatureValue → FeatureValues
in_tables by_nsid by_feature = values_of by_nsid.values by_feature.values

-- the key of a feature with a value for each namespace is Error Recovery's key for the NSID
key_of_nsid : (f : Feature) (n s : ℕ) → is_selector f s ≡ true → (row_of f).per_namespace ≡ true
    → key_of f n s ≡ recovery_key n
key_of_nsid f n s known per =
    let same = of_namespaces f per in
    let none = only s (subst (λ g. is_selector g s ≡ true) same known) in
    ap (λ g. key_of g n s) same ∙ ap (key_of ErrorRecovery n) none
  where
    only : (t : ℕ) → is_selector ErrorRecovery t ≡ true → t ≡ 0
    only t e = grind (arith, nat_tests)

-- the key of any other feature belongs to its place by feature and selector
key_of_place : (f : Feature) (n s : ℕ) → is_selector f s ≡ true → (row_of f).per_namespace ≡ false
    → key_of f n s ≡ key_at ((row_of f).fid * 32 + s)
key_of_place f n s known alone = λ i. record {
  fid = row i;
  nsid = if alone i then n else 0;
  selector = column i;
}
  where
    row : (row_of f).fid ≡ ((row_of f).fid * 32 + s) / 32
    row = omega (arith, selector_below f s known)

    column : s ≡ ((row_of f).fid * 32 + s) % 32
    column = omega (arith, selector_below f s known)

-- the place of any other feature is not in Error Recovery's row
other_row : (f : Feature) (s : ℕ) → is_selector f s ≡ true → (row_of f).per_namespace ≡ false
    → ((row_of f).fid * 32 + s) / 32 ≢ 5
other_row f s known alone =
    grind (arith, nat_tests, selector_below f s known, other_identifier f alone)

module _ (by_nsid by_feature : Table) where
  -- the values of both tables
  abbrev both : FeatureValues
  both = values_of by_nsid by_feature

  -- a value inserted by NSID is inserted under the key of Error Recovery for that NSID
  pub inserted_nsid : (n : ℕ) (x : FeatureValue) → values_of (map_of.insert by_nsid n x) by_feature
      ≡ map_of.insert both (recovery_key n) x
  inserted_nsid n x = same_values _ _ (λ q. grind (arith, nat_tests, of_nsid, get_in, value_of_insert, get_of_insert))

  -- a value inserted by feature and selector, other than Error Recovery's, is inserted under the key of its place
  pub inserted_place : (n : ℕ) (x : FeatureValue) → n / 32 ≢ 5
      → values_of by_nsid (map_of.insert by_feature n x) ≡ map_of.insert both (key_at n) x
  inserted_place n x other = same_values _ _ (λ q.
      grind (arith, nat_tests, of_place, get_in, value_of_insert, get_of_insert))

  -- a value removed by NSID is removed under the key of Error Recovery for that NSID
  pub removed_nsid : map_of.get by_feature 160 ≡ None → (n : ℕ)
      → values_of (map_of.remove by_nsid n) by_feature ≡ map_of.remove both (recovery_key n)
  removed_nsid apart n = same_values _ _ (λ q.
      grind (arith, nat_tests, of_nsid, get_in, value_of_remove, get_of_remove))

  -- removing all values by NSID keeps exactly the values of keys without an NSID
  pub cleared : map_of.get by_nsid 0 ≡ None
      → values_of map_of.empty by_feature ≡ map_of.retain_keys both is_alone
  cleared none = same_values _ _ (λ q.
      grind (arith, nat_tests, get_in, value_of_retain, get-empty {X = FeatureValue} nat_cmp))

  -- Error Recovery's key for an NSID has what the table by NSID has
  pub got_nsid : map_of.get by_feature 160 ≡ None → (n : ℕ)
      → map_of.get both (recovery_key n) ≡ map_of.get by_nsid n
  got_nsid apart n = grind (arith, nat_tests, get_in by_nsid by_feature (recovery_key n))

  -- the key of a place, other than Error Recovery's, has what the table by feature and selector has
  pub got_place : (n : ℕ) → n / 32 ≢ 5 → map_of.get both (key_at n) ≡ map_of.get by_feature n
  got_place n other = grind (arith, nat_tests, get_in by_nsid by_feature (key_at n))

-- two empty tables have no values
pub no_values : values_of map_of.empty map_of.empty ≡ map_of.empty
no_values = same_values _ _ (λ q.
    grind (arith, get_in, get-empty {X = FeatureValue} key_cmp, get-empty {X = FeatureValue} nat_cmp))

-- ---- by the feature

module _ (by_nsid by_feature : RangeMap FeatureValue) (f : Feature) (n s : ℕ) (known : is_selector f s ≡ true) where
  -- the key of Error Recovery has what the table by NSID has
  pub got_recovery : AreTables by_nsid by_feature → (row_of f).per_namespace ≡ true
      → map_of.get (in_tables by_nsid by_feature) (key_of f n s) ≡ map_of.get by_nsid.values n
  got_recovery are per = ap (map_of.get (in_tables by_nsid by_feature)) (key_of_nsid f n s known per)
      ∙ got_nsid by_nsid.values by_feature.values are.apart n

  -- the key of any other feature has what the table by feature and selector has
  pub got_feature : (row_of f).per_namespace ≡ false
      → map_of.get (in_tables by_nsid by_feature) (key_of f n s)
      ≡ map_of.get by_feature.values ((row_of f).fid * 32 + s)
  got_feature alone = ap (map_of.get (in_tables by_nsid by_feature)) (key_of_place f n s known alone)
      ∙ got_place by_nsid.values by_feature.values ((row_of f).fid * 32 + s) (other_row f s known alone)

  -- inserting a value of Error Recovery by NSID inserts it under its key
  pub inserted_recovery : (x : FeatureValue) → (row_of f).per_namespace ≡ true
      → values_of (map_of.insert by_nsid.values n x) by_feature.values
      ≡ map_of.insert (in_tables by_nsid by_feature) (key_of f n s) x
  inserted_recovery x per = inserted_nsid by_nsid.values by_feature.values n x
      ∙ ap (λ k. map_of.insert (in_tables by_nsid by_feature) k x) (sym (key_of_nsid f n s known per))

  -- inserting a value of any other feature by feature and selector inserts it under its key
  pub inserted_feature : (x : FeatureValue) → (row_of f).per_namespace ≡ false
      → values_of by_nsid.values (map_of.insert by_feature.values ((row_of f).fid * 32 + s) x)
      ≡ map_of.insert (in_tables by_nsid by_feature) (key_of f n s) x
  inserted_feature x alone =
      inserted_place by_nsid.values by_feature.values ((row_of f).fid * 32 + s) x (other_row f s known alone)
      ∙ ap (λ k. map_of.insert (in_tables by_nsid by_feature) k x) (sym (key_of_place f n s known alone))

  -- inserting a value of any other feature leaves Error Recovery's row empty
  pub still_apart : (x : FeatureValue) → (row_of f).per_namespace ≡ false → AreTables by_nsid by_feature
      → map_of.get (map_of.insert by_feature.values ((row_of f).fid * 32 + s) x) 160 ≡ None
  still_apart x alone are = grind (
    arith,
    nat_tests,
    other_row f s known alone,
    are.apart,
    get_of_insert by_feature.values ((row_of f).fid * 32 + s) x 160,
  )

-- ---- tables stay within their numbers

module _ (least numbers : ℕ) where
  -- an empty table is within its numbers
  pub over-empty : (first count : ℕ) → first ≡ least → count ≡ numbers
      → IsOver least numbers (record { first = first; count = count; values = map_of.empty })
  over-empty first count at_least so_many = record {
    first = at_least;
    count = so_many;
    within = λ n e. absurd (cc (sym e ∙ ap is_some (get-empty {X = FeatureValue} nat_cmp n)));
  }

  module _ (table : RangeMap FeatureValue) (over : IsOver least numbers table) where
    -- a table stays within its numbers when a value is inserted under one of them
    pub over-insert : (n : ℕ) (x : FeatureValue) → IsOf least numbers n
        → IsOver least numbers (record table { values = map_of.insert table.values n x })
    over-insert n x is = record {
      first = over.first;
      count = over.count;
      within = λ q e. grind (arith, nat_tests, over.within q, get_of_insert table.values n x q);
    }

    -- a table stays within its numbers when a value is removed
    pub over-remove : (n : ℕ) → IsOver least numbers (record table { values = map_of.remove table.values n })
    over-remove n = record {
      first = over.first;
      count = over.count;
      within = λ q e. grind (arith, nat_tests, over.within q, get_of_remove table.values n q);
    }

-- a table by NSID has no value for NSID 0
pub no_nsid_zero : (table : RangeMap FeatureValue) → IsOver 1 table.count table → map_of.get table.values 0 ≡ None
no_nsid_zero table over = grind (arith, over.within 0)

-- ---- restored tables

-- before the first number, nothing was restored
pub none_restored : (default : ℕ → ℕ) (old : RangeMap FeatureValue) → AreRestored default 0 old old
none_restored default old = record { first = refl; count = refl; values = λ n. grind (arith, nat_tests) }

-- restoring the value of the next number restores one number more
pub next_restored : (default : ℕ → ℕ) (i k d : ℕ) (old now : RangeMap FeatureValue)
    → AreRestored default i old now → k ≡ old.first + i → d ≡ default k
    → AreRestored default (i + 1) old (record now { values = restored_at d now.values k })
next_restored default i k d old now so_far here is = record {
  first = so_far.first;
  count = so_far.count;
  values = λ q. grind (arith, nat_tests, get_of_insert, so_far.values q);
}

module _ (least numbers : ℕ) (default : ℕ → ℕ) (old new : RangeMap FeatureValue)
    (over : IsOver least numbers old) (done : AreRestored default old.count old new) where
  -- after the restoring of all numbers, each value is the restored old one
  all_restored_in : (n : ℕ)
      → map_of.get new.values n ≡ option_map (restored (default n)) (map_of.get old.values n)
  all_restored_in n = grind (arith, nat_tests, over.within n, done.values n, over.first, over.count)

  -- a restored table is within its numbers
  over_restored : IsOver least numbers new
  over_restored = record {
    first = done.first ∙ over.first;
    count = done.count ∙ over.count;
    within = λ n e. over.within n (grind (arith, nat_tests, all_restored_in n));
  }

-- a change by feature and selector that is made in both tables is made under each key
changed_in_both : (change : ℕ → ℕ → FeatureValue → FeatureValue) (by_nsid by_feature nsids features : Table)
    (q : ValueKey) (place : ℕ) → place ≡ q.fid * 32 + q.selector
    → map_of.get nsids q.nsid ≡ option_map (change 5 0) (map_of.get by_nsid q.nsid)
    → map_of.get features place ≡ option_map (change (place / 32) (place % 32)) (map_of.get by_feature place)
    → value_at nsids features q ≡ option_map (change q.fid q.selector) (value_at by_nsid by_feature q)
changed_in_both change by_nsid by_feature nsids features q place here recovery other = grind (arith, nat_tests)

module _ (rules : FeatureRules) (recovery : ℕ) (by_nsid by_feature nsids features : RangeMap FeatureValue)
    (are : AreTables by_nsid by_feature) (is : recovery ≡ (first_value rules (recovery_key 0)).current)
    (recoveries : AreRestored (λ _. recovery) by_nsid.count by_nsid nsids)
    (others : AreRestored (λ n. (first_value rules (key_at n)).current) by_feature.count by_feature features) where
  -- the default of the key of a place
  abbrev default_of_place : ℕ → ℕ
  default_of_place n = (first_value rules (key_at n)).current

  -- a restored table by feature and selector has each value restored from the saved one or the default
  restored_place : (n : ℕ) → map_of.get features.values n
      ≡ option_map (restored (default_of_place n)) (map_of.get by_feature.values n)
  restored_place = all_restored_in 0 384 default_of_place by_feature features are.rows others

  -- a restored table by NSID has each value restored from the saved one or Error Recovery's default
  restored_nsid : (n : ℕ) → map_of.get nsids.values n ≡ option_map (restored recovery) (map_of.get by_nsid.values n)
  restored_nsid = all_restored_in 1 by_nsid.count (λ _. recovery) by_nsid nsids are.nsids recoveries

  -- restored tables are tables
  pub tables_restored : AreTables nsids features
  tables_restored = record {
    nsids = subst (λ m. IsOver 1 m nsids) (sym recoveries.count)
        (over_restored 1 by_nsid.count (λ _. recovery) by_nsid nsids are.nsids recoveries);
    rows = over_restored 0 384 default_of_place by_feature features are.rows others;
    apart = restored_place 160 ∙ ap (option_map (restored (default_of_place 160))) are.apart;
  }

  -- the values of restored tables are the restored values of the tables
  pub values_restored : in_tables nsids features ≡ all_restored rules (in_tables by_nsid by_feature)
  values_restored = same_values _ _ (λ q.
      get_in nsids.values features.values q
      ∙ changed_in_both (λ f s. restored (default_of (rule_for rules f) s)) by_nsid.values by_feature.values
      nsids.values features.values q (q.fid * 32 + q.selector) refl
      (restored_nsid q.nsid ∙ ap (λ d. option_map (restored d) (map_of.get by_nsid.values q.nsid)) is)
      (restored_place (q.fid * 32 + q.selector))
      ∙ ap (option_map (restored (first_value rules q).current))
      (sym (get_in by_nsid.values by_feature.values q))
      ∙ sym (get-all_restored rules (in_tables by_nsid by_feature) q))

-- ---- writes

-- a write under a key without a value changes nothing
pub written_absent : (f : Feature) (dword : ℕ) (save : Bool) (values : FeatureValues) (k : ValueKey)
    → map_of.get values k ≡ None → changed_at (write f dword save) values k ≡ values
written_absent f dword save values k none = rw none (by (is_set f dword k.selector))
  where
    by : (b : Bool) → option_map_or (map_of.insert values k) (if b then None else None) (map_of.remove values k)
        ≡ values
    by true = removed_absent values k none
    by false = removed_absent values k none

-- a write for another selector changes nothing
pub written_apart : (f : Feature) (dword : ℕ) (save : Bool) (values : FeatureValues) (k : ValueKey)
    → is_set f dword k.selector ≡ false → changed_at (write f dword save) values k ≡ values
written_apart f dword save values k apart = rw apart (put_back values k (map_of.get values k) refl)
