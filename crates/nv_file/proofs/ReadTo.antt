-- A list of tables that is read up to an index.
use Rattle.std.proofs.Common.{◌≡◌, ◌∙◌, ◌⊎◌, inl, inr, ℕ, ◌+◌, ◌<◌, ◌≤◌, List, [], ◌∷◌, ◌++◌, length, take, drop}
use Rattle.std.proofs.Common.{get_or, map, Some, None, BTreeMap, String, Global, refl, sym, ap}
use Rattle.std.proofs.lemmas.Simd.{map-map}
use Rattle.std.specs.Borrow.{Bor}
use Rattle.nv_file.specs.Check.{Check, first_error}
use Rattle.nv_file.proofs.Words.{drop_all, drop_more, each, map_push, Members, Memory, SubsystemError, table_view}
use Rattle.nv_file.proofs.Words.{tables_view, take_all, take_more, Value}
use Rattle.nv_file.proofs.CheckLaws.{or_else, faults_append, faults_none}

-- a table of the code
abbrev pub Place : Type 0
Place = Bor (BTreeMap (String Global) Value)

module _ {A : Type 0} (number_of : Members → ℕ) (checks : List ℕ → Members → List Check)
    (value : Members → A) where
  -- the numbers of the first i tables
  abbrev pub before : List Place → ℕ → List ℕ
  before ts i = map number_of (tables_view (take i ts))

  -- no check of the tables before fails, and these are their values
  pub record IsReadTo (ts : List Place) (i : ℕ) (values : List A) : Type 0 where
    pub rest : first_error (each number_of checks (before ts i) (tables_view (drop i ts)))
        ≡ first_error (each number_of checks [] (tables_view ts))
    pub are : values ≡ map value (tables_view (take i ts))

  -- the numbers of the values of tables are the numbers of the tables
  mapped : (key : A → ℕ) → ((m : Members) → key (value m) ≡ number_of m) → (ms : List Members)
      → map key (map value ms) ≡ map number_of ms
  mapped key same [] = refl
  mapped key same (m ∷ ms) = rw (same m, mapped key same ms)

  -- the numbers of the values that were read are the numbers of their tables
  pub numbers_read : (key : A → ℕ) → ((m : Members) → key (value m) ≡ number_of m) → (ts : List Place)
      (i : ℕ) (values : List A) → IsReadTo ts i values → map key values ≡ before ts i
  numbers_read key same ts i values read = ap (map key) read.are ∙ mapped key same (tables_view (take i ts))

  -- the same for values that are seen through `view`
  pub numbers_viewed : {E : Type 0} (view : E → A) (key : A → ℕ) → ((m : Members) → key (value m) ≡ number_of m)
      → (ts : List Place) (i : ℕ) (entries : List E) → IsReadTo ts i (map view entries)
      → map (λ e. key (view e)) entries ≡ before ts i
  numbers_viewed view key same ts i entries read =
      sym (map-map key view entries) ∙ numbers_read key same ts i (map view entries) read

  -- the checks from table i on are the checks of this table and then the checks from the next one on
  at_index : (ts : List Place) (i : ℕ) (t : Place) → i < length ts → t ≡ get_or ts i t
      → each number_of checks (before ts i) (tables_view (drop i ts))
      ≡ checks (before ts i) (table_view t.now)
      ++ each number_of checks (before ts (i + 1)) (tables_view (drop (i + 1) ts))
  at_index ts i t h is = rw (drop_more ts i t h, take_more ts i t h, ← is, map_push, map_push)

  -- a table without a fault is read, and its value is added
  pub read_more : (ts : List Place) (i : ℕ) (values : List A) (t : Place) (v : A) → IsReadTo ts i values
      → i < length ts → t ≡ get_or ts i t
      → first_error (checks (before ts i) (table_view t.now)) ≡ None
      → v ≡ value (table_view t.now) → IsReadTo ts (i + 1) (values ++ v ∷ [])
  read_more ts i values t v read h is passes same = record {
    rest = sym (ap first_error (at_index ts i t h is)
        ∙ faults_append (checks (before ts i) (table_view t.now)) _
        ∙ ap (λ f. or_else f (first_error (each number_of checks (before ts (i + 1))
        (tables_view (drop (i + 1) ts))))) passes) ∙ read.rest;
    are = rw (take_more ts i t h, ← is, map_push, map_push, same, read.are);
  }

  -- a fault of table i is the first fault of all tables
  pub read_fails : (ts : List Place) (i : ℕ) (values : List A) (t : Place) (e : SubsystemError)
      → IsReadTo ts i values → i < length ts → t ≡ get_or ts i t
      → first_error (checks (before ts i) (table_view t.now)) ≡ Some e
      → first_error (each number_of checks [] (tables_view ts)) ≡ Some e
  read_fails ts i values t e read h is fails =
      sym read.rest ∙ ap first_error (at_index ts i t h is)
      ∙ faults_append (checks (before ts i) (table_view t.now)) _
      ∙ ap (λ f. or_else f (first_error (each number_of checks (before ts (i + 1))
      (tables_view (drop (i + 1) ts))))) fails

  -- the same, unless memory ran out
  pub read_fails_unless_memory : (ts : List Place) (i : ℕ) (values : List A) (t : Place)
      (e : SubsystemError) → IsReadTo ts i values → i < length ts → t ≡ get_or ts i t
      → (e ≡ Memory) ⊎ (first_error (checks (before ts i) (table_view t.now)) ≡ Some e)
      → (e ≡ Memory) ⊎ (first_error (each number_of checks [] (tables_view ts)) ≡ Some e)
  read_fails_unless_memory ts i values t e read h is fails =
      elim fails [ inl memory ↦ inl memory | inr fault ↦ inr (read_fails ts i values t e read h is fault) ]

  -- when all tables were read, they have no fault, and the values are theirs
  pub read_all : (ts : List Place) (i : ℕ) (values : List A) → IsReadTo ts i values → length ts ≤ i
      → (first_error (each number_of checks [] (tables_view ts)) ≡ None) × (values ≡ map value (tables_view ts))
  read_all ts i values read h =
      (sym read.rest ∙ rw (drop_all i ts h) faults_none, read.are ∙ rw (take_all i ts h))
